-- When the owner of an account is busy (draft JMAP for Calendars).
use Rattle.std.specs.Prelude.{ℕ, ℤ, pos, ◌-ℤ◌, ◌&&◌, int_le, int_lt, List, [], ◌∷◌, Option, Some, None, codes, is_some, map, option_and_then, if◌then◌else◌}
use Rattle.std.specs.Option.{option_map_or}
use Rattle.std.specs.Str.{bytes_eq}
use Rattle.spec_availability.specs.BusyInstants.{is_taken_up}
use Rattle.spec_availability.specs.Runs.{runs_in}
use Rattle.spec_availability.specs.declared.limits.TheConstants.{MAX_WINDOW_SECONDS}
use Rattle.spec_calls.specs.declared.call.AvailabilityArguments.{AvailabilityArguments}
use Rattle.spec_calls.specs.declared.call.MethodError.{MethodError}
use Rattle.spec_calls.specs.declared.call.MethodError.TheVariants.{InvalidArguments}
use Rattle.spec_events.specs.Values.{is_showing}
use Rattle.spec_history.specs.Base.{Base}
use Rattle.spec_history.specs.History.{live_at}
use Rattle.spec_history.specs.declared.entry.Change.{Change}
use Rattle.spec_history.specs.declared.entry.Kind.TheVariants.{Event}
use Rattle.spec_json.specs.Data.{Data, items_of, list, members_of, object, text}
use Rattle.spec_json.specs.declared.tree.Tree.{Tree}
use Rattle.spec_json.specs.declared.tree.Tree.TheVariants.{Object}
use Rattle.spec_site.specs.TimeZones.{has_zone}
use Rattle.spec_time.specs.LocalTimes.{utc_in, utc_text}
use Rattle.spec_windows.specs.declared.period.Period.{Period}

-- the instant of a UTCDate (RFC 8620 section 1.4) in the years 1 to 9998
abbrev pub showing_instant : List ℕ → Option ℤ
showing_instant s = option_and_then (λ u. if is_showing u then Some u else None) (utc_in s)

-- the instants from one up to a later one, at most 366 days
abbrev pub window_between : ℤ → ℤ → Option Period
window_between from to =
    if int_lt from to && int_le (to -ℤ from) (pos MAX_WINDOW_SECONDS) then Some (record { from = from; to = to }) else None

-- the window between two UTCDates, none where a call may not ask for it
abbrev pub window_in : List ℕ → List ℕ → Option Period
window_in start end = option_and_then (λ from. option_and_then (window_between from) (showing_instant end)) (showing_instant start)

abbrev pub period_data : Period → Data
period_data p = object (members_of ((codes "utcEnd", text (utc_text p.to)) ∷ (codes "utcStart", text (utc_text p.from)) ∷ []))

-- the arguments that tell these busy periods of an account
abbrev pub periods_object : List ℕ → List Period → Tree
periods_object account ps = Object ((codes "accountId", text account) ∷ (codes "list", list (items_of (map period_data ps))) ∷ [])

module _ (base : Base) where
  -- the principal is the account, the window one that may be asked for, and the zone of floating events one of the account's
  abbrev pub availability_refusal : AvailabilityArguments → Option MethodError
  availability_refusal q =
      if bytes_eq q.id base.account_id && (is_some (window_in q.utc_start q.utc_end) && has_zone base.zones q.time_zone) then None else Some InvalidArguments

  -- the maximal runs of the window's instants that live events take up
  abbrev pub busy_periods : List Change → List ℕ → Period → List Period
  busy_periods cs zone window = runs_in (is_taken_up base.zones zone (live_at cs Event)) window

  -- the arguments of the response
  abbrev pub availability_response : List Change → AvailabilityArguments → Tree
  availability_response cs q = periods_object base.account_id (option_map_or (busy_periods cs q.time_zone) (window_in q.utc_start q.utc_end) [])
