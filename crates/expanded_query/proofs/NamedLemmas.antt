-- What no exception of a series names, no override of its event does.
use Rattle.std.proofs.Common.{◌≡◌, ◌∙◌, ℤ, List, [], ◌∷◌, Bool, true, false, Option, Some, None, Bor, IfSome, is_some, refl, sym, ap}
use Rattle.std.specs.Prelude.{option_map}
use Rattle.std.specs.Ordering.{int_eq}
use Rattle.std.proofs.lemmas.Bool.{true≢false}
use Rattle.event_series.proofs.ExceptionLemmas.{replaced_at, takes_place}
use Rattle.event_series.proofs.OccurrenceLemmas.{agrees_by}
use Rattle.event_series.proofs.SeriesLemmas.{series_parts_of}
use Rattle.event_series.specs.EventSeries.{IsSeriesOf}
use Rattle.expanded_query.specs.OwnTitles.{NamesOverrides}
use Rattle.spec_json.specs.Data.{Data, Pair}
use Rattle.spec_recurrence.specs.Overrides.{overrides_in}
use Rattle.spec_recurrence.specs.Recurrence.{is_there, override_at}
use Rattle.spec_recurrence.specs.SeriesOf.{series_in}
use Rattle.spec_series.specs.SeriesLimits.{is_named}
use Rattle.spec_series.specs.declared.exception.Exception.{Exception}
use Rattle.spec_series.specs.declared.series.Series.{Series}
use Rattle.spec_site.specs.TimeZones.{ZoneText}
use Rattle.spec_time.specs.LocalTimes.{local_text}

by_bool : {Q : Type 0} (b : Bool) → (b ≡ true → Q) → (b ≡ false → Q) → Q
by_bool true f g = f refl
by_bool false f g = g refl

not_replaced : (xs : List Exception) (w : ℤ) → is_named xs w ≡ false → replaced_at xs w ≡ None
unfolding is_named
not_replaced [] w h = refl
not_replaced (x ∷ xs) w h = by_bool (int_eq x.rid w)
    (λ e. let no = rw e at h in absurd (cc no))
    (λ e. rw e (not_replaced xs w (rw e at h)))

-- an override that is there says whether there is the occurrence, whatever the rules give
none_there : (o : Option (List Pair)) → ((given : Bool) → is_there o given ≡ given) → is_some o ≡ false
none_there None h = refl
none_there (Some patch) h = absurd (true≢false (sym (h true) ∙ h false))

not_overridden : (zones : List ZoneText) (d : Data) (s : Series) → IsSeriesOf zones d s → NamesOverrides s d
not_overridden zones d s of w years free =
    none_there (override_at (local_text w) d) (λ given. agrees_by zones d s.exceptions w given years (overrides_in d) refl of.exceptions ∙ ap (λ r. takes_place r given) (not_replaced s.exceptions w free))

pub names_overrides : (zones : List ZoneText) (d : Data) (o : Option (Bor Series)) → option_map (λ s. s.now) o ≡ series_in zones d → IfSome o (λ s. NamesOverrides s.now d)
names_overrides zones d None h = tt
names_overrides zones d (Some s) h = not_overridden zones d s.now (series_parts_of zones d s.now (sym h))

-- so the title is looked up at none
pub none_at : {A : Type 0} (o : Option A) → is_some o ≡ false → None ≡ o
none_at None h = refl
none_at (Some x) h = absurd (true≢false h)
