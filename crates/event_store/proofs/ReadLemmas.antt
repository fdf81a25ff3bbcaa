-- What stands beside an event is its series, at any state.
use Rattle.std.proofs.Common.{◌≡◌, ◌==◌, ℕ, Bool, true, false, cond, List, [], ◌∷◌, Option, None, Some, take, refl, sym, ap, ◌∙◌}
use Rattle.std.specs.Prelude.{unwrap_or}
use Rattle.std.proofs.lemmas.List.{take-map}
use Rattle.account_store.specs.declared.kept.KeptEvent.{KeptEvent}
use Rattle.event_store.specs.ReadSeries.{AreRead, series_beside, series_read}
use Rattle.object_log.specs.Puts.{latest, latest_from, latest_at}
use Rattle.object_log.specs.declared.put.Put.{Put}
use Rattle.spec_site.specs.TimeZones.{ZoneText}

abbrev first_of : {X : Type 0} → X → List X → X
first_of none [] = none
first_of none (x ∷ xs) = x

abbrev rest_of : {X : Type 0} → List X → List X
rest_of [] = []
rest_of (x ∷ xs) = xs

module _ (zones : List ZoneText) where
  -- what was read of all is read of the first of them
  take_read : (k : ℕ) (ps : List (Put KeptEvent)) → AreRead zones ps → AreRead zones (take k ps)
  take_read k ps read = sym (take-map (λ (p : Put KeptEvent). series_beside p.object) k ps) ∙ ap (take k) read ∙ take-map (λ (p : Put KeptEvent). series_read zones p.object) k ps

  by_put : (p : Put KeptEvent) (before : Option KeptEvent) (same : Bool) → series_beside p.object ≡ series_read zones p.object → series_beside before ≡ series_read zones before
      → series_beside (cond same p.object before) ≡ series_read zones (cond same p.object before)
  by_put p before true here h = here
  by_put p before false here h = h

  latest_read_from : (ps : List (Put KeptEvent)) (id : ℕ) (before : Option KeptEvent) → AreRead zones ps → series_beside before ≡ series_read zones before
      → series_beside (latest_from before ps id) ≡ series_read zones (latest_from before ps id)
  latest_read_from [] id before read h = h
  latest_read_from (p ∷ ps) id before read h =
      latest_read_from ps id (cond (p.id == id) p.object before) (ap rest_of read) (by_put p before (p.id == id) (ap (first_of None) read) h)

  -- what stands beside the event of a number
  pub latest_read : (ps : List (Put KeptEvent)) (id : ℕ) → AreRead zones ps → series_beside (latest ps id) ≡ series_read zones (latest ps id)
  latest_read ps id read = latest_read_from ps id None read refl

  -- and beside what it was at an earlier state
  pub earlier_read : (ps : List (Put KeptEvent)) (k id : ℕ) → AreRead zones ps → series_beside (latest_at ps k id) ≡ series_read zones (latest_at ps k id)
  earlier_read ps k id read = latest_read (take k ps) id (take_read k ps read)

-- what is told of an event that is there
pub of_some : {X : Type 0} (a b none : X) → Some a ≡ Some b → a ≡ b
of_some a b none h = ap (λ o. unwrap_or o none) h
