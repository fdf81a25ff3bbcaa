-- Sound changes: those whose object an account would store again, as it stands, behind the changes before them. What is sound is told from
-- the changes and the zones alone, so that a list of entries that was kept can be tested before an account goes on from it.
use Rattle.std.specs.Prelude.{ℕ, ℤ, pos, List, [], ◌∷◌, ◌++◌, ◌==◌, ◌&&◌, ◌||◌, Bool, true, false, not, Option, Some, None, codes, int_le, is_some, length, option_map, if◌then◌else◌}
use Rattle.std.specs.List.{list_all}
use Rattle.std.specs.Option.{option_map_or}
use Rattle.std.specs.Str.{bytes_eq}
use Rattle.cal_model.specs.Operations.{destroyed_outcome, stored_calendar_outcome, stored_event_outcome}
use Rattle.cal_model.specs.declared.outcome.Outcome.{Outcome}
use Rattle.cal_model.specs.declared.outcome.Outcome.TheVariants.{Accepted, Refused}
use Rattle.spec_history.specs.History.{live_object, next_number}
use Rattle.spec_history.specs.ObjectId.{id_text}
use Rattle.spec_history.specs.declared.entry.Change.{Change}
use Rattle.spec_history.specs.declared.entry.Kind.{Kind}
use Rattle.spec_history.specs.declared.entry.Kind.TheVariants.{Calendar, Event}
use Rattle.spec_json.specs.Data.{Data, field}
use Rattle.spec_json.specs.Parts.{is_null, members_in, text_at}
use Rattle.spec_json.specs.SameData.{same_data}
use Rattle.spec_json.specs.TreeData.{data_of}
use Rattle.spec_json.specs.declared.tree.Tree.{Tree}
use Rattle.spec_site.specs.TimeZones.{ZoneText}
use Rattle.spec_time.specs.LocalTimes.{utc_in}
use Rattle.spec_time.specs.declared.moment.TheConstants.{LAST_MOMENT}

-- the text is the UTCDate of a moment (RFC 8984 section 1.4.4)
abbrev pub is_moment : ℤ → Bool
is_moment z = int_le (pos 0) z && int_le z LAST_MOMENT

abbrev pub is_moment_text : List ℕ → Bool
is_moment_text s = option_map_or is_moment (utc_in s) false

abbrev pub has_moment : List ℕ → Data → Bool
has_moment key d = option_map_or is_moment_text (text_at key d) false

-- the object has its own id in it (RFC 8620 section 5.3)
abbrev pub has_own_id : Kind → ℕ → Data → Bool
has_own_id kind n d = option_map_or (λ s. bytes_eq s (id_text kind n)) (text_at (codes "id") d) false

abbrev pub has_no_null : Data → Bool
has_no_null d = list_all (λ p. not (is_null p.1)) (members_in d)

-- What the server sets or supplies of an object stands in it, as it is stored: the id; of an event its type and the moments of its create and
-- of its last change (RFC 8984 sections 4.1.1, 4.1.5 and 4.1.6), and no null.
abbrev pub has_server_values : Kind → ℕ → Data → Bool
has_server_values Calendar n d = has_own_id Calendar n d
has_server_values Event n d =
    (((has_own_id Event n d && is_some (field (codes "@type") d)) && has_moment (codes "created") d) && has_moment (codes "updated") d) && has_no_null d

-- an object that is put has them
abbrev pub has_stored_form : Kind → ℕ → Option Tree → Bool
has_stored_form kind n o = option_map_or (λ t. has_server_values kind n (data_of t)) o true

abbrev pub same_object : Option Tree → Option Tree → Bool
same_object None None = true
same_object None (Some u) = false
same_object (Some t) None = false
same_object (Some t) (Some u) = same_data (data_of t) (data_of u)

-- a change is made, which leaves this object
abbrev pub leaves : Option Tree → Outcome → Bool
leaves o (Accepted c) = same_object c.object o
leaves o (Refused e) = false

module _ (zones : List ZoneText) (cs : List Change) where
  -- the number is that of a live object, or the next
  abbrev pub has_number : Kind → ℕ → Bool
  has_number kind n = is_some (live_object cs kind n) || (n == next_number cs kind)

  -- what comes of storing an object as it stands, or of removing one, where nothing is put
  abbrev pub outcome_again : Kind → ℕ → Option Tree → Outcome
  outcome_again kind n None = destroyed_outcome cs kind (option_map (λ t. (n, t)) (live_object cs kind n))
  outcome_again Calendar n (Some t) = stored_calendar_outcome zones cs n (live_object cs Calendar n) false (data_of t)
  outcome_again Event n (Some t) = stored_event_outcome zones cs n (live_object cs Event n) false (members_in (data_of t))

  -- The change may follow these: storing its object again is accepted and gives that very object, or removing it is. So a calendar has all
  -- nine properties, and an update leaves a calendar's `resourceZone` and an event's `uid`.
  unfoldable pub is_sound : Change → Bool
  is_sound c = (has_number c.kind c.id && has_stored_form c.kind c.id c.object) && leaves c.object (outcome_again c.kind c.id c.object)

module _ (zones : List ZoneText) where
  -- the place of the first change that isn't sound, where these stand before the others
  abbrev pub first_unsound : List Change → List Change → Option ℕ
  first_unsound before [] = None
  first_unsound before (c ∷ cs) = if is_sound zones before c then first_unsound (before ++ c ∷ []) cs else Some (length before)

  -- the place of the first change that isn't sound behind those before it
  abbrev pub unsound_place : List Change → Option ℕ
  unsound_place cs = first_unsound [] cs
