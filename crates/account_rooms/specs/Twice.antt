-- The seconds of a resource that an event would have covered twice, over all days without end.
use Rattle.std.specs.Prelude.{◌≡◌, ◌⊎◌, ◌<◌, ◌≤◌, ℕ, ℤ, ◌≤ℤ◌, true, List, slice_get, Option, Some, MatchOption}
use Rattle.spec_events.specs.Events.{names_calendar}
use Rattle.spec_history.specs.History.{live_object}
use Rattle.spec_history.specs.declared.entry.Change.{Change}
use Rattle.spec_history.specs.declared.entry.Kind.TheVariants.{Event}
use Rattle.spec_json.specs.TreeData.{data_of}
use Rattle.spec_json.specs.declared.tree.Tree.{Tree}
use Rattle.spec_recurrence.specs.SeriesOf.{series_in}
use Rattle.spec_bookings.specs.Clashes.{second_of}
use Rattle.spec_bookings.specs.declared.clash.Clash.{Clash}
use Rattle.spec_series.specs.Occurrences.{Covers, IsOccurrence}
use Rattle.spec_series.specs.Shared.{IsSelfShared}
use Rattle.spec_series.specs.declared.occurrence.Occurrence.{Occurrence}
use Rattle.spec_series.specs.declared.series.Series.{Series}
use Rattle.spec_site.specs.TimeZones.{ZoneText}

-- an occurrence of the series covers x
abbrev pub IsCoveredBy : Series → ℤ → Type 0
IsCoveredBy s x = (o : Occurrence) × (IsOccurrence s o × Covers o x)

-- the live event of a number is in a calendar, and an occurrence of it covers x
pub record Occupies (zones : List ZoneText) (cs : List Change) (calendar number : ℕ) (x : ℤ) : Type 0 where
  pub event : Tree
  pub live : live_object cs Event number ≡ Some event
  pub there : names_calendar calendar (data_of event) ≡ true
  pub series : Series
  pub valid : series_in zones (data_of event) ≡ Some series
  pub covered : IsCoveredBy series x

-- it does, and isn't the event that is stored
abbrev pub OtherOccupies : List ZoneText → List Change → ℕ → ℕ → ℕ → ℤ → Type 0
OtherOccupies zones cs event calendar number x = ((number ≡ event) → ⊥) × Occupies zones cs calendar number x

-- Stored with this series, the event would have x covered by two different occurrences in a calendar: by two of its own, or by one of its own and
-- one of another live event.
abbrev pub WouldCoverTwice : List ZoneText → List Change → ℕ → Series → ℕ → ℤ → Type 0
WouldCoverTwice zones cs event s calendar x = IsSelfShared s x ⊎ (IsCoveredBy s x × ((number : ℕ) × OtherOccupies zones cs event calendar number x))

-- the first of the other events, in order of creation, that covers x; None where none does
abbrev pub IsFirstOther : List ZoneText → List Change → ℕ → ℕ → ℤ → Option ℕ → Type 0
IsFirstOther zones cs event calendar x o =
    MatchOption o ((n : ℕ) → OtherOccupies zones cs event calendar n x → ⊥) (λ n. OtherOccupies zones cs event calendar n x × ((m : ℕ) → OtherOccupies zones cs event calendar m x → n ≤ m))

-- the clash in a calendar: the least of those seconds, by its day and the second of the day, with the first other event that covers it
pub record IsClashIn (zones : List ZoneText) (cs : List Change) (event : ℕ) (s : Series) (calendar : ℕ) (clash : Clash) : Type 0 where
  pub twice : WouldCoverTwice zones cs event s calendar (second_of clash)
  pub least : (x : ℤ) → WouldCoverTwice zones cs event s calendar x → second_of clash ≤ℤ x
  pub of_day : clash.second < 86400
  pub first : IsFirstOther zones cs event calendar (second_of clash) clash.with

-- the same in the first of some calendars that has such a second
pub record IsFirstClash (zones : List ZoneText) (cs : List Change) (event : ℕ) (s : Series) (calendars : List ℕ) (calendar : ℕ) (clash : Clash) : Type 0 where
  pub place : ℕ
  pub here : slice_get calendars place ≡ Some calendar
  pub told : IsClashIn zones cs event s calendar clash
  pub before : (k earlier : ℕ) (x : ℤ) → k < place → slice_get calendars k ≡ Some earlier → WouldCoverTwice zones cs event s earlier x → ⊥
