-- What was read of staged changes, beside them, and of the events that they put.
use Rattle.std.proofs.Common.{◌≡◌, List, [], ◌∷◌, ◌++◌, Option, Some, None, Bool, true, false, cond, map, refl, sym, ap, ◌∙◌}
use Rattle.std.proofs.lemmas.List.{map-append, map_push}
use Rattle.account_store.specs.Kept.{event_put, kept_event}
use Rattle.account_store.specs.declared.kept.KeptEvent.{KeptEvent}
use Rattle.event_store.specs.ReadSeries.{AreRead, series_beside, series_read}
use Rattle.object_log.specs.declared.put.Put.{Put}
use Rattle.cal_model.specs.Quota.{size_of_object}
use Rattle.spec_bookings.specs.SeriesPut.{series_put}
use Rattle.spec_history.specs.History.{is_kind}
use Rattle.spec_history.specs.declared.entry.Change.{Change}
use Rattle.spec_history.specs.declared.entry.Kind.TheVariants.{Event}
use Rattle.spec_json.specs.TreeData.{data_of}
use Rattle.spec_json.specs.declared.tree.Tree.{Tree}
use Rattle.spec_recurrence.specs.SeriesOf.{series_in}
use Rattle.spec_series.specs.declared.series.Series.{Series}
use Rattle.spec_site.specs.TimeZones.{ZoneText}
use Rattle.std.specs.Prelude.{if◌then◌else◌, option_and_then}

-- one change more is staged
pub one_read : {X Y : Type 0} (f : X → Y) (g : Change → Y) (staged more : List Change) (c : Change) (rs rs' : List X) (r : X) → map f rs ≡ map g staged → f r ≡ g c → more ≡ staged ++ c ∷ [] → rs' ≡ rs ++ r ∷ []
    → map f rs' ≡ map g more
one_read f g staged more c rs rs' r h same is read =
    ap (map f) read ∙ map_push f rs r ∙ ap (λ l. l ++ f r ∷ []) h ∙ ap (λ y. map g staged ++ y ∷ []) same ∙ sym (map_push g staged c) ∙ ap (map g) (sym is)

-- nothing is staged
pub none_read : {X Y : Type 0} (f : X → Y) (g : Change → Y) (staged : List Change) (rs : List X) → staged ≡ [] → rs ≡ [] → map f rs ≡ map g staged
none_read f g staged rs none empty = ap (map f) empty ∙ ap (map g) (sym none)

module _ (zones : List ZoneText) where
  put_read : (o : Option Tree) (series : Option Series) → series ≡ option_and_then (λ t. series_in zones (data_of t)) o → series_beside (kept_event o series) ≡ series_read zones (kept_event o series)
  put_read None series is = refl
  put_read (Some t) series is = ap Some is

  abbrev put_of : Change → Option Series → Put KeptEvent
  put_of c series = record { id = c.id; object = kept_event c.object series; size = size_of_object c.object }

  one_put_read : (c : Change) (series : Option Series) → series ≡ series_put zones c → (b : Bool) → is_kind Event c.kind ≡ b
      → map (λ (p : Put KeptEvent). series_beside p.object) (cond b (put_of c series ∷ []) []) ≡ map (λ (p : Put KeptEvent). series_read zones p.object) (cond b (put_of c series ∷ []) [])
  one_put_read c series is false of = refl
  one_put_read c series is true of = ap (λ o. o ∷ []) (put_read c.object series (is ∙ ap (λ b. if b then option_and_then (λ t. series_in zones (data_of t)) c.object else None) of))

  -- an entry more, whose event has its series beside it
  pub more_read : (ps qs : List (Put KeptEvent)) (c : Change) (series : Option Series) → AreRead zones ps → series ≡ series_put zones c → qs ≡ ps ++ event_put c series → AreRead zones qs
  more_read ps qs c series read is more =
      ap (map (λ (p : Put KeptEvent). series_beside p.object)) more ∙ map-append (λ (p : Put KeptEvent). series_beside p.object) ps (event_put c series)
      ∙ ap (λ l. l ++ map (λ (p : Put KeptEvent). series_beside p.object) (event_put c series)) read
      ∙ ap (λ l. map (λ (p : Put KeptEvent). series_read zones p.object) ps ++ l) (one_put_read c series is (is_kind Event c.kind) refl)
      ∙ sym (map-append (λ (p : Put KeptEvent). series_read zones p.object) ps (event_put c series)) ∙ sym (ap (map (λ (p : Put KeptEvent). series_read zones p.object)) more)
