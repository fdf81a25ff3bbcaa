-- Beside each event that was put stands its series.
use Rattle.std.proofs.Common.{◌≡◌, ◌++◌, List, [], ◌∷◌, Option, Some, None, Bool, true, false, cond, map, option_and_then, option_map, refl, sym, ap, ◌∙◌, if◌then◌else◌}
use Rattle.std.proofs.lemmas.List.{map-append}
use Rattle.account_store.specs.Kept.{event_put, kept_event}
use Rattle.account_store.specs.declared.kept.KeptEvent.{KeptEvent}
use Rattle.event_store.specs.ReadSeries.{AreRead, series_beside, series_read}
use Rattle.object_log.specs.declared.put.Put.{Put}
use Rattle.spec_bookings.specs.SeriesPut.{series_put}
use Rattle.spec_history.specs.History.{is_kind}
use Rattle.spec_history.specs.declared.entry.Change.{Change}
use Rattle.spec_history.specs.declared.entry.Kind.TheVariants.{Event}
use Rattle.spec_json.specs.TreeData.{data_of}
use Rattle.spec_json.specs.declared.tree.Tree.{Tree}
use Rattle.spec_recurrence.specs.SeriesOf.{series_in}
use Rattle.spec_series.specs.declared.series.Series.{Series}
use Rattle.spec_site.specs.TimeZones.{ZoneText}
use Rattle.spec_sizes.specs.Sizes.{of_kind, size_of_object}
use Rattle.store_opening.specs.Puts.{put_by, puts_by, with_series}

module _ (zones : List ZoneText) where
  abbrev beside : Put KeptEvent → Option (Option Series)
  beside p = series_beside p.object

  abbrev read_of : Put KeptEvent → Option (Option Series)
  read_of p = series_read zones p.object

  -- those that are made of a history
  made_read : (cs : List Change) → map beside (map (put_by (with_series zones)) cs) ≡ map read_of (map (put_by (with_series zones)) cs)
  made_read [] = refl
  made_read (c ∷ cs) = ap (λ l. beside (put_by (with_series zones) c) ∷ l) (made_read cs) ∙ ap (λ o. o ∷ map read_of (map (put_by (with_series zones)) cs)) (each c.object)
    where
      each : (o : Option Tree) → series_beside (option_map (with_series zones) o) ≡ series_read zones (option_map (with_series zones) o)
      each None = refl
      each (Some t) = refl

  pub past_read : (cs : List Change) → AreRead zones (puts_by (with_series zones) Event cs)
  past_read cs = made_read (of_kind Event cs)

  put_read : (o : Option Tree) (series : Option Series) → series ≡ option_and_then (λ t. series_in zones (data_of t)) o → series_beside (kept_event o series) ≡ series_read zones (kept_event o series)
  put_read None series is = refl
  put_read (Some t) series is = ap Some is

  abbrev put_of : Change → Option Series → Put KeptEvent
  put_of c series = record { id = c.id; object = kept_event c.object series; size = size_of_object c.object }

  one_read : (c : Change) (series : Option Series) → series ≡ series_put zones c → (b : Bool) → is_kind Event c.kind ≡ b → map beside (cond b (put_of c series ∷ []) []) ≡ map read_of (cond b (put_of c series ∷ []) [])
  one_read c series is false of = refl
  one_read c series is true of = ap (λ o. o ∷ []) (put_read c.object series (is ∙ ap (λ b. if b then option_and_then (λ t. series_in zones (data_of t)) c.object else None) of))

  -- an entry more, whose event has its series beside it
  pub more_read : (ps qs : List (Put KeptEvent)) (c : Change) (series : Option Series) → AreRead zones ps → series ≡ series_put zones c → qs ≡ ps ++ event_put c series → AreRead zones qs
  more_read ps qs c series read is more =
      ap (map beside) more ∙ map-append beside ps (event_put c series) ∙ ap (λ l. l ++ map beside (event_put c series)) read
      ∙ ap (λ l. map read_of ps ++ l) (one_read c series is (is_kind Event c.kind) refl) ∙ sym (map-append read_of ps (event_put c series)) ∙ sym (ap (map read_of) more)
