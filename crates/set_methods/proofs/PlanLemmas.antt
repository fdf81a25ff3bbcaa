-- What comes of a set that is carried out in three runs.
use Rattle.std.proofs.Common.{length, suc, ◌≡◌, ◌++◌, ◌∷◌, ℕ, List, [], flat_map, map, refl, sym, ap, ◌∙◌, append_assoc}
use Rattle.std.proofs.lemmas.List.{length-map}
use Rattle.std.proofs.lemmas.List.Concat.{flat_map-append}
use Rattle.cal_model.specs.CreatedIds.{resolved_id}
use Rattle.cal_model.specs.Operations.{Ground, changes_in, create_outcome, created_id, destroy, outcomes, outcomes_of_creates}
use Rattle.cal_model.specs.Sets.{NamedId, Objects, all_ids, after_creates, after_updates, create_outcomes, destroy_outcomes, ids_named, ids_to_destroy, set_changes, update_outcomes, updates_after}
use Rattle.cal_model.specs.declared.outcome.Outcome.{Outcome}
use Rattle.spec_history.specs.declared.entry.Change.{Change}
use Rattle.spec_history.specs.declared.entry.Kind.{Kind}
use Rattle.spec_json.specs.Data.{Pair}

-- what a set came to: the outcomes of its updates and destroys, the ids that it named, and the changes with those that it made
pub record IsSet (g : Ground) (kind : Kind) (created : List (List ℕ × List ℕ)) (cs : List Change) (s : Objects) (b d : List Outcome) (named : List NamedId) (after : List Change) : Type 0 where
  pub gone : named ≡ ids_to_destroy g kind created cs s
  pub updates : b ≡ update_outcomes g kind created cs s
  pub destroys : d ≡ destroy_outcomes g kind created cs s
  pub all : after ≡ cs ++ set_changes g kind created cs s

pub set_is : (g : Ground) (kind : Kind) (created : List (List ℕ × List ℕ)) (cs : List Change) (s : Objects) (a b d : List Outcome) (ids : List (List ℕ × List ℕ)) (named : List NamedId) (c1 c2 c3 : List Change)
    → a ≡ create_outcomes g kind created cs s → ids ≡ all_ids g kind created cs s → c1 ≡ cs ++ flat_map changes_in a → named ≡ ids_named ids s.destroys
    → b ≡ outcomes g kind ids c1 (updates_after ids named [] s.updates) → c2 ≡ c1 ++ flat_map changes_in b
    → d ≡ outcomes g kind ids c2 (map (λ q. destroy q.1) named) → c3 ≡ c2 ++ flat_map changes_in d
    → IsSet g kind created cs s b d named c3
set_is g kind created cs s a b d ids named c1 c2 c3 made is_ids is_c1 is_named is_b is_c2 is_d is_c3 =
    let gone : named ≡ ids_to_destroy g kind created cs s = is_named ∙ ap (λ is. ids_named is s.destroys) is_ids in
    let first : c1 ≡ after_creates g kind created cs s = is_c1 ∙ ap (λ os. cs ++ flat_map changes_in os) made in
    let updated : b ≡ update_outcomes g kind created cs s =
    is_b ∙ ap (λ t. outcomes g kind ids t (updates_after ids named [] s.updates)) first
    ∙ ap (λ is. outcomes g kind is (after_creates g kind created cs s) (updates_after is named [] s.updates)) is_ids
    ∙ ap (λ ns. outcomes g kind (all_ids g kind created cs s) (after_creates g kind created cs s) (updates_after (all_ids g kind created cs s) ns [] s.updates)) gone in
    let second : c2 ≡ after_updates g kind created cs s =
    is_c2 ∙ ap (λ t. t ++ flat_map changes_in b) first ∙ ap (λ os. after_creates g kind created cs s ++ flat_map changes_in os) updated in
    let destroyed : d ≡ destroy_outcomes g kind created cs s =
    is_d ∙ ap (λ t. outcomes g kind ids t (map (λ q. destroy q.1) named)) second ∙ ap (λ is. outcomes g kind is (after_updates g kind created cs s) (map (λ q. destroy q.1) named)) is_ids
    ∙ ap (λ ns. outcomes g kind (all_ids g kind created cs s) (after_updates g kind created cs s) (map (λ q. destroy q.1) ns)) gone in
    record {
      gone = gone;
      updates = updated;
      destroys = destroyed;
      all = is_c3 ∙ ap (λ t. t ++ flat_map changes_in d) second ∙ ap (λ os. after_updates g kind created cs s ++ flat_map changes_in os) destroyed
          ∙ all_changes (create_outcomes g kind created cs s) (update_outcomes g kind created cs s) (destroy_outcomes g kind created cs s);
    }
  where
    all_changes : (xs ys zs : List Outcome) → ((cs ++ flat_map changes_in xs) ++ flat_map changes_in ys) ++ flat_map changes_in zs ≡ cs ++ flat_map changes_in (xs ++ (ys ++ zs))
    all_changes xs ys zs =
        append_assoc (cs ++ flat_map changes_in xs) (flat_map changes_in ys) (flat_map changes_in zs) ∙ append_assoc cs (flat_map changes_in xs) (flat_map changes_in ys ++ flat_map changes_in zs)
        ∙ ap (λ t. cs ++ (flat_map changes_in xs ++ t)) (sym (flat_map-append changes_in ys zs)) ∙ ap (λ t. cs ++ t) (sym (flat_map-append changes_in xs (ys ++ zs)))

-- an operation for each update
pub length-updates_after : (created : List (List ℕ × List ℕ)) (destroyed earlier : List NamedId) (ps : List Pair) → length (updates_after created destroyed earlier ps) ≡ length ps
length-updates_after created destroyed earlier [] = refl
length-updates_after created destroyed earlier (p ∷ ps) = ap suc (length-updates_after created destroyed (earlier ++ (p.0, resolved_id created p.0) ∷ []) ps)

pub as_many : {X Y : Type 0} (f : X → Y) (xs : List X) (ys : List Y) → map f xs ≡ ys → length xs ≡ length ys
as_many f xs ys e = sym (length-map xs f) ∙ ap length e

-- one create more: its outcome, and those of the creates behind it
pub next_create : (g : Ground) (kind : Kind) (ids ids' : List (List ℕ × List ℕ)) (cs cs' : List Change) (p : Pair) (ps : List Pair) (o : Outcome)
    → o ≡ create_outcome g kind ids cs p → cs' ≡ cs ++ changes_in o → ids' ≡ ids ++ created_id p o
    → outcomes_of_creates g kind ids cs (p ∷ ps) ≡ o ∷ outcomes_of_creates g kind ids' cs' ps
next_create g kind ids ids' cs cs' p ps o is_o is_cs is_ids =
    ap (λ x. x ∷ outcomes_of_creates g kind (ids ++ created_id p x) (cs ++ changes_in x) ps) (sym is_o)
    ∙ ap (λ t. o ∷ outcomes_of_creates g kind (ids ++ created_id p o) t ps) (sym is_cs)
    ∙ ap (λ t. o ∷ outcomes_of_creates g kind t cs' ps) (sym is_ids)
