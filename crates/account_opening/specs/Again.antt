-- The live objects of a history, put again one after the other: calendars first and then events, each in order of number.
use Rattle.std.specs.Prelude.{ℕ, List, [], ◌∷◌, ◌++◌, Option, Some, None, flat_map, take, ◌≡◌, false, true}
use Rattle.account_store.specs.Earlier.{live_ids}
use Rattle.cal_model.specs.SoundObjects.{is_sound_object}
use Rattle.spec_bookings.specs.BookedResources.{clash_of_event, has_full_resource}
use Rattle.spec_history.specs.History.{live_object}
use Rattle.spec_history.specs.declared.entry.Change.{Change}
use Rattle.spec_history.specs.declared.entry.Kind.{Kind}
use Rattle.spec_history.specs.declared.entry.Kind.TheVariants.{Calendar, Event}
use Rattle.spec_json.specs.Data.{Data}
use Rattle.spec_json.specs.TreeData.{data_of}
use Rattle.spec_json.specs.declared.tree.Tree.{Tree}
use Rattle.spec_recurrence.specs.SeriesOf.{series_in}
use Rattle.spec_series.specs.declared.series.Series.{Series}
use Rattle.spec_site.specs.TimeZones.{ZoneText}

abbrev pub put_of : Kind → ℕ → Option Tree → List Change
put_of kind n None = []
put_of kind n (Some t) = (record { kind = kind; id = n; object = Some t }) ∷ []

-- those of some numbers of a kind
abbrev pub puts_of : List Change → Kind → List ℕ → List Change
puts_of cs kind ns = flat_map (λ n. put_of kind n (live_object cs kind n)) ns

-- all calendars, and so many events
abbrev pub again_at : List Change → ℕ → List Change
again_at cs k = puts_of cs Calendar (live_ids cs Calendar) ++ puts_of cs Event (take k (live_ids cs Event))

-- all of them
abbrev pub put_again : List Change → List Change
put_again cs = puts_of cs Calendar (live_ids cs Calendar) ++ puts_of cs Event (live_ids cs Event)

-- each live object of a kind is sound
abbrev pub AreSound : List ZoneText → List Change → Kind → Type 0
AreSound zones cs kind = (n : ℕ) (t : Tree) → live_object cs kind n ≡ Some t → is_sound_object zones cs kind n (data_of t) ≡ true

-- whatever series an event of these changes has, each resource has room for it, and it clashes with nothing
abbrev pub NothingStandsAgainst : List ZoneText → List Change → ℕ → Data → Type 0
NothingStandsAgainst zones cs event d = (s : Series) → series_in zones d ≡ Some s → (has_full_resource zones cs event d ≡ false) × (clash_of_event zones cs event d ≡ None)
