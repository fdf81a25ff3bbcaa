-- The events that changes behind a state name.
use Rattle.std.proofs.Common.{◌≡◌, ℕ, zero, suc, ◌&&◌, Bool, true, false, cond, List, [], ◌∷◌, drop, filter, map, take, refl, sym, ap, ◌∙◌}
use Rattle.std.proofs.Math.Seq.{take-length}
use Rattle.std.proofs.lemmas.List.{drop-map}
use Rattle.account_store.specs.Earlier.{touched_ids}
use Rattle.object_log.proofs.LawLemmas.{ids_are, length-mentions}
use Rattle.object_log.proofs.MentionLemmas.{is_named}
use Rattle.object_log.proofs.SizeLemmas.{is_in-ids_of}
use Rattle.object_log.proofs.TouchedLemmas.{in_ids, touched_named}
use Rattle.spec_history.proofs.IdLemmas.{is_in-filter}
use Rattle.spec_history.specs.History.{count_of_kind, ids_at, is_kind}
use Rattle.spec_history.specs.Pages.{Mention, is_in, is_touched, mention_of, mentions}
use Rattle.spec_history.specs.declared.entry.Change.{Change}
use Rattle.spec_history.specs.declared.entry.Kind.TheVariants.{Event}
use Rattle.spec_queries.specs.Matching.{of_events, touched_since}

twice : {X : Type 0} (p : X → Bool) (xs : List X) → filter p (filter p xs) ≡ filter p xs
twice p [] = refl
twice p (x ∷ xs) = by_test (p x) refl (twice p xs)
  where
    by_test : (b : Bool) → p x ≡ b → filter p (filter p xs) ≡ filter p xs → filter p (cond b (x ∷ filter p xs) (filter p xs)) ≡ cond b (x ∷ filter p xs) (filter p xs)
    by_test true is rest = ap (λ b. cond b (x ∷ filter p (filter p xs)) (filter p (filter p xs))) is ∙ ap (λ l. x ∷ l) rest
    by_test false is rest = rest

-- those behind some of what passes pass
dropped_pass : {X : Type 0} (p : X → Bool) (k : ℕ) (xs : List X) → filter p (drop k (filter p xs)) ≡ drop k (filter p xs)
dropped_pass p zero xs = twice p xs
dropped_pass p (suc k) [] = refl
dropped_pass p (suc k) (x ∷ xs) = by_test (p x) (dropped_pass p k xs) (dropped_pass p (suc k) xs)
  where
    by_test : (b : Bool) → filter p (drop k (filter p xs)) ≡ drop k (filter p xs) → filter p (drop (suc k) (filter p xs)) ≡ drop (suc k) (filter p xs)
        → filter p (drop (suc k) (cond b (x ∷ filter p xs) (filter p xs))) ≡ drop (suc k) (cond b (x ∷ filter p xs) (filter p xs))
    by_test true here rest = here
    by_test false here rest = rest

ids_mentioned : (cs : List Change) → map (λ (m : Mention). m.id) (map mention_of cs) ≡ map (λ (c : Change). c.id) cs
ids_mentioned [] = refl
ids_mentioned (c ∷ cs) = ap (λ l. c.id ∷ l) (ids_mentioned cs)

-- a number is named between a state and now where it is among those that were touched since
pub named_since : (cs : List Change) (k id : ℕ) → is_touched (mentions Event cs) k (count_of_kind cs Event) id ≡ is_in (touched_since cs k) id
named_since cs k id =
    let ms = mentions Event cs in
    let all : take (count_of_kind cs Event) ms ≡ ms = ap (λ n. take n ms) (sym (length-mentions cs Event)) ∙ take-length ms in
    ap (λ (l : List Mention). is_named (drop k l) id) all ∙ sym (in_ids (drop k ms) id)
    ∙ ap (λ (l : List Mention). is_in (map (λ (m : Mention). m.id) l) id) (drop-map mention_of k (of_events cs))
    ∙ ap (λ (l : List ℕ). is_in l id) (ids_mentioned (drop k (of_events cs)) ∙ ap (map (λ (c : Change). c.id)) (sym (dropped_pass (λ (c : Change). is_kind Event c.kind) k cs)))

-- the numbers that changes behind a state name are those
pub touched_are : (cs : List Change) (k id : ℕ) → is_in (touched_ids cs Event k) id ≡ is_touched (mentions Event cs) k (count_of_kind cs Event) id
touched_are cs k id =
    let ms = mentions Event cs in
    let n = count_of_kind cs Event in
    is_in-filter (is_touched ms k n) (ids_at cs Event) id
    ∙ ap (λ b. b && is_touched ms k n id) (ap (λ (l : List ℕ). is_in l id) (sym (ids_are cs Event)) ∙ is_in-ids_of ms id)
    ∙ by_name (is_named ms id) refl
  where
    by_name : (b : Bool) → is_named (mentions Event cs) id ≡ b → (b && is_touched (mentions Event cs) k (count_of_kind cs Event) id) ≡ is_touched (mentions Event cs) k (count_of_kind cs Event) id
    by_name true is = refl
    by_name false is = sym (touched_named (mentions Event cs) k (count_of_kind cs Event) id is)
