-- What an operation of a set stands for, what it is judged against, and when its change may be staged.
use Rattle.std.specs.Prelude.{◌≡◌, ◌⊎◌, ℕ, List, Bool, Option, Some, None, codes, false, true, is_some}
use Rattle.cal_model.specs.Operations as operations
use Rattle.cal_model.specs.EventObject.{has_other_uid, names_missing_calendar}
use Rattle.cal_model.specs.Operations.{update, destroy, with_name_if}
use Rattle.cal_model.specs.Fits.{IsFit}
use Rattle.cal_model.specs.Quota.{size_of_object}
use Rattle.cal_model.specs.declared.outcome.Outcome.{Outcome}
use Rattle.cal_model.specs.declared.outcome.Outcome.TheVariants.{Accepted, Refused}
use Rattle.spec_history.specs.History.{live_object, next_number}
use Rattle.spec_history.specs.declared.entry.Change.{Change}
use Rattle.spec_history.specs.declared.entry.Kind.{Kind}
use Rattle.spec_json.specs.Data.{Data}
use Rattle.spec_json.specs.Parts.{members_in}
use Rattle.spec_json.specs.TreeData.{data_of}
use Rattle.spec_json.specs.declared.tree.Tree.{Tree}
use Rattle.spec_recurrence.specs.SeriesOf.{series_in}
use Rattle.spec_bookings.specs.SeriesPut.{series_put}
use Rattle.spec_bookings.specs.BookingRules.{has_long_override, is_in_other_zone, is_long_booking}
use Rattle.spec_series.specs.declared.series.Series.{Series}
use Rattle.spec_site.specs.TimeZones.{ZoneText}
use Rattle.object_outcomes.specs.declared.operation.Operation.{Operation}
use Rattle.object_outcomes.specs.declared.operation.Operation.TheVariants.{Update, Destroy}
use Rattle.object_outcomes.specs.declared.setting.Judged.{Judged}
use Rattle.object_outcomes.specs.declared.setting.Setting.{Setting}

abbrev pub ground_in : Setting → operations.Ground
ground_in s = record { base = record { account_id = s.account.now; zones = s.zones.now; generation = s.generation }; moment = s.moment }

abbrev pub operation_in : Operation → operations.Operation
operation_in (Update id patch is_destroyed is_repeated) = update id.now (members_in (data_of patch.now)) is_destroyed is_repeated
operation_in (Destroy id) = destroy id.now

-- an object of this number may be put: it is the next, or is there
abbrev pub HasNumber : List Change → Kind → ℕ → Type 0
HasNumber cs kind n = (n ≡ next_number cs kind) ⊎ (is_some (live_object cs kind n) ≡ true)

-- what the object of a number is so far: nothing where it is the next, and else what is live
abbrev pub IsBefore : List Change → Kind → ℕ → Option Tree → Type 0
IsBefore cs kind n None = (n ≡ next_number cs kind) × (live_object cs kind n ≡ None)
IsBefore cs kind n (Some t) = live_object cs kind n ≡ Some t

-- an accepted change may follow these; its object has a text of so many bytes, and it is of this series where it is an event; nothing is put
-- by what is refused
abbrev pub MayFollow : List ZoneText → List Change → Outcome → ℕ → Option Series → Type 0
MayFollow zones cs (Accepted c) size series = IsFit zones cs c × (size ≡ size_of_object c.object) × (series ≡ series_put zones c)
MayFollow zones cs (Refused e) size series = (size ≡ 0) × (series ≡ None)

abbrev pub IsAllowed : List ZoneText → List Change → Judged → Type 0
IsAllowed zones cs j = MayFollow zones cs j.outcome j.size j.series

-- an event of this series may be stored where there is room: no property is bad, none for its calendars, and no occurrence is too long for its resources
pub record IsStorable (zones : List ZoneText) (cs : List Change) (d : Data) (series : Series) : Type 0 where
  pub valid : series_in zones d ≡ Some series
  pub calendars : names_missing_calendar cs d ≡ false
  pub length : is_long_booking cs d ≡ false
  pub overrides : has_long_override zones cs d ≡ false

-- These names of bad properties of an event, with those that its resources make bad. `is_long` says whether an override lets an occurrence last longer
-- than that of a booking may.
abbrev pub names_with_booking : List Change → Bool → Data → List (List ℕ) → List (List ℕ)
names_with_booking cs is_long d names = with_name_if is_long (codes "recurrenceOverrides")
    (with_name_if (is_long_booking cs d) (codes "duration") (with_name_if (is_in_other_zone cs d) (codes "timeZone") names))

-- the same with those that its account and what it was before make bad
abbrev pub names_with_own : List Change → Option Tree → Bool → Bool → Data → List (List ℕ) → List (List ℕ)
names_with_own cs before names_id is_long d names = with_name_if names_id (codes "id") (with_name_if (has_other_uid before d) (codes "uid")
    (with_name_if (names_missing_calendar cs d) (codes "calendarIds") (names_with_booking cs is_long d names)))
