-- A set makes no more changes than it names objects (RFC 8620 section 5.3).
use Rattle.std.proofs.Common.{◌≡◌, ◌≤◌, ◌+◌, ◌∷◌, ◌++◌, [], ℕ, List, Bool, true, false, cond, Option, Some, None, flat_map, fold, map, length, length-append, arith, suc, refl, ap}
use Rattle.std.specs.Prelude.{if◌then◌else◌, nat_lt, not}
use Rattle.std.proofs.lemmas.Bool.{ltb-false}
use Rattle.std.proofs.lemmas.List.{length-map}
use Rattle.cal_model.specs.CreatedIds.{resolved_id}
use Rattle.cal_model.specs.Operations.{Ground, Operation, changes_in, create_outcome, created_id, destroy, outcome_of, outcomes, outcomes_of_creates}
use Rattle.cal_model.specs.Sets.{NamedId, Objects, after_creates, after_updates, all_ids, are_values, create_outcomes, destroy_outcomes, ids_to_destroy, is_in_state, names_id, set_changes, set_refusal, update_outcomes, updates_after}
use Rattle.cal_model.specs.declared.outcome.Outcome.{Outcome}
use Rattle.cal_model.specs.declared.outcome.Outcome.TheVariants.{Accepted, Refused}
use Rattle.set_methods.proofs.PlanLemmas.{length-updates_after}
use Rattle.spec_calls.specs.declared.call.MethodError.{MethodError}
use Rattle.spec_calls.specs.declared.call.MethodError.TheVariants.{InvalidArguments, RequestTooLarge, StateMismatch}
use Rattle.spec_core.specs.declared.limits.TheConstants.{MAX_OBJECTS_IN_SET}
use Rattle.spec_history.specs.declared.entry.Change.{Change}
use Rattle.spec_history.specs.declared.entry.Kind.{Kind}
use Rattle.spec_json.specs.Data.{Pair}

one_change : (o : Outcome) → length (changes_in o) ≤ 1
one_change (Accepted c) = omega arith
one_change (Refused e) = omega arith

as_few : (os : List Outcome) → length (flat_map changes_in os) ≤ length os
as_few [] = omega arith
as_few (o ∷ os) = omega (arith, one_change o, as_few os, length-append (changes_in o) (flat_map changes_in os))

length-creates : (g : Ground) (kind : Kind) (created : List (List ℕ × List ℕ)) (cs : List Change) (ps : List Pair) → length (outcomes_of_creates g kind created cs ps) ≡ length ps
length-creates g kind created cs [] = refl
length-creates g kind created cs (p ∷ ps) =
    ap suc (length-creates g kind (created ++ created_id p (create_outcome g kind created cs p)) (cs ++ changes_in (create_outcome g kind created cs p)) ps)

length-outcomes : (g : Ground) (kind : Kind) (created : List (List ℕ × List ℕ)) (cs : List Change) (os : List Operation) → length (outcomes g kind created cs os) ≡ length os
length-outcomes g kind created cs [] = refl
length-outcomes g kind created cs (o ∷ os) = ap suc (length-outcomes g kind created (cs ++ changes_in (outcome_of g cs kind created o)) os)

one_id : (found : List NamedId) (q : NamedId) (b : Bool) → length (cond b found (found ++ q ∷ [])) ≤ length found + 1
one_id found q true = omega arith
one_id found q false = omega (arith, length-append found (q ∷ []))

module _ (created : List (List ℕ × List ℕ)) where
  abbrev with_named : List NamedId → List ℕ → List NamedId
  with_named found t = if names_id found (resolved_id created t) then found else found ++ (t, resolved_id created t) ∷ []

  ids_from : (found : List NamedId) (texts : List (List ℕ)) → length (fold with_named found texts) ≤ length found + length texts
  ids_from found [] = omega arith
  ids_from found (t ∷ ts) = omega (arith, ids_from (with_named found t) ts, one_id found (t, resolved_id created t) (names_id found (resolved_id created t)))

module _ (g : Ground) (kind : Kind) (created : List (List ℕ × List ℕ)) (cs : List Change) (s : Objects) where
  pub few_changes : length (set_changes g kind created cs s) ≤ length s.creates + (length s.updates + length s.destroys)
  few_changes =
      let made = create_outcomes g kind created cs s in
      let changed = update_outcomes g kind created cs s in
      let gone = destroy_outcomes g kind created cs s in
      let ids = all_ids g kind created cs s in
      let named = ids_to_destroy g kind created cs s in
      let updates = updates_after ids named [] s.updates in
      let destroys = map (λ (q : NamedId). destroy q.1) named in
      let are_made : length made ≡ length s.creates = length-creates g kind created cs s.creates in
      let are_changed : length changed ≡ length updates = length-outcomes g kind ids (after_creates g kind created cs s) updates in
      let are_gone : length gone ≡ length destroys = length-outcomes g kind ids (after_updates g kind created cs s) destroys in
      omega (
        arith,
        as_few (made ++ (changed ++ gone)),
        length-append made (changed ++ gone),
        length-append changed gone,
        are_made,
        are_changed,
        are_gone,
        length-updates_after ids named [] s.updates,
        length-map named (λ (q : NamedId). destroy q.1),
        ids_from ids [] s.destroys,
      )

-- a set that isn't refused names no more objects than may be
pub within_most : (generation : ℕ) (kind : Kind) (cs : List Change) (s : Objects) (if_in_state : Option (List ℕ)) (remove_events : Option Bool) → set_refusal generation kind cs s if_in_state remove_events ≡ None
    → length s.creates + (length s.updates + length s.destroys) ≤ MAX_OBJECTS_IN_SET
within_most generation kind cs s if_in_state remove_events h =
    ltb-false MAX_OBJECTS_IN_SET (length s.creates + (length s.updates + length s.destroys))
    (by_tests (are_values s remove_events) (nat_lt MAX_OBJECTS_IN_SET (length s.creates + (length s.updates + length s.destroys))) (if not (is_in_state generation kind cs if_in_state) then Some StateMismatch else None) h)
  where
    by_tests : (are large : Bool) (rest : Option MethodError) → (if not are then Some InvalidArguments else if large then Some RequestTooLarge else rest) ≡ None → large ≡ false
    by_tests false large rest e = absurd (cc e)
    by_tests true true rest e = absurd (cc e)
    by_tests true false rest e = refl
