-- What a call for a slot asks for, by its arguments.
use Rattle.std.specs.Prelude.{ℕ, ℤ, pos, int_le, ◌+ℤ◌, ◌&&◌, List, Bool, Option, Some, None, is_some, nat_le, option_and_then, option_map, if◌then◌else◌}
use Rattle.spec_calls.specs.declared.call.SlotArguments.{SlotArguments}
use Rattle.spec_core.specs.Id.{is_id}
use Rattle.spec_events.specs.Values.{is_showing}
use Rattle.spec_json.specs.Data.{Data}
use Rattle.spec_json.specs.TreeData.{data_of}
use Rattle.spec_series.specs.Lengths.{most_booked_seconds}
use Rattle.spec_series.specs.RuleObjects.{rules_in}
use Rattle.spec_series.specs.SeriesLimits.{wall_seconds}
use Rattle.spec_site.specs.Configuration.{passing}
use Rattle.spec_slots.specs.declared.limits.TheConstants.{MAX_SPAN_SECONDS}
use Rattle.spec_time.specs.Durations.{duration_in}
use Rattle.spec_time.specs.LocalTimes.{local_in}
use Rattle.spec_time.specs.declared.length.Length.{Length}

-- where and when, apart from the rules
pub record Frame : Type 0 where
  pub calendar : List ℕ
  pub length : Length
  pub from : ℤ
  pub to : ℤ

pub record SlotRequest : Type 0 where
  pub frame : Frame
  pub rules : Data

-- an Id (RFC 8620 section 1.2)
abbrev pub id_asked : List ℕ → Option (List ℕ)
id_asked s = if is_id s then Some s else None

-- at most 7 days
abbrev pub is_week : Length → Bool
is_week l = nat_le (wall_seconds l) most_booked_seconds

-- a Duration (RFC 8984 section 1.4.6)
abbrev pub duration_asked : List ℕ → Option Length
duration_asked s = passing is_week (duration_in s)

-- a LocalDateTime (RFC 8984 section 1.4.5) in the years 1 to 9998
abbrev pub wall_asked : List ℕ → Option ℤ
wall_asked s = passing is_showing (local_in s)

abbrev pub frame_in : SlotArguments → Option Frame
frame_in q =
    option_and_then (λ calendar. option_and_then (λ length. option_and_then (λ from. option_map
    (λ to. record { calendar = calendar; length = length; from = from; to = to })
    (wall_asked q.before)) (wall_asked q.after)) (duration_asked q.duration)) (id_asked q.calendar)

-- `before` doesn't lie before `after`, nor further behind it than a look goes
abbrev pub is_in_order : ℤ → ℤ → Bool
is_in_order from to = int_le from to && int_le to (from +ℤ pos MAX_SPAN_SECONDS)

-- the rules can be read (RFC 8984 section 4.3.3)
abbrev pub may_be_asked : SlotRequest → Bool
may_be_asked a = is_in_order a.frame.from a.frame.to && is_some (rules_in a.frame.from a.rules)

-- both together, where they may be asked
abbrev pub slot_request_with : Frame → Data → Option SlotRequest
slot_request_with frame rules = if may_be_asked (record { frame = frame; rules = rules }) then Some (record { frame = frame; rules = rules }) else None

abbrev pub slot_request : SlotArguments → Option SlotRequest
slot_request q = option_and_then (λ frame. slot_request_with frame (data_of q.rules)) (frame_in q)
