-- The ids that are mentioned, as each mention adds one that is new.
use Rattle.std.proofs.Common.{◌≡◌, ◌==◌, ◌&&◌, ◌||◌, not, ℕ, List, [], ◌∷◌, ◌++◌, Bool, true, false, cond, filter, fold, refl, sym, ap, ◌∙◌, arith, append_assoc, append-nil, eqb-true}
use Rattle.std.proofs.lemmas.Bool.Decides.{nat_tests}
use Rattle.std.proofs.lemmas.List.Elements.{filter_agree}
use Rattle.std.proofs.lemmas.List.Folds.{list_any-append}
use Rattle.spec_history.specs.History.{with_id}
use Rattle.spec_history.specs.Pages.{Mention, ids_of, is_in}

-- those of some numbers that aren't among these
abbrev new_in : List ℕ → List ℕ → List ℕ
new_in ids ns = filter (λ n. not (is_in ids n)) ns

step_both : (p : ℕ → Bool) (n : ℕ) (xs : List ℕ) (a b : Bool) → p n ≡ b → (ys : List ℕ) → filter p xs ≡ ys → filter p (cond a (n ∷ xs) xs) ≡ cond (a && b) (n ∷ ys) ys
step_both p n xs true b e ys h = rw (e, h) refl
step_both p n xs false b e ys h = h

-- two filters are one
filter_both : (p q : ℕ → Bool) (ns : List ℕ) → filter p (filter q ns) ≡ filter (λ n. q n && p n) ns
filter_both p q [] = refl
filter_both p q (n ∷ ns) = step_both p n (filter q ns) (q n) (p n) refl (filter (λ m. q m && p m) ns) (filter_both p q ns)

-- another number than one that is there
known_differs : (ids : List ℕ) (n m : ℕ) (same : Bool) → (m == n) ≡ same → is_in ids n ≡ true → (not same && not (is_in ids m)) ≡ not (is_in ids m)
known_differs ids n m true e known = rw (ap (λ k. is_in ids k) (eqb-true m n e) ∙ known) refl
known_differs ids n m false e known = refl

new_differs : (ids : List ℕ) (n m : ℕ) (there same : Bool) → is_in ids m ≡ there → (m == n) ≡ same → (not same && not there) ≡ not (is_in (ids ++ n ∷ []) m)
new_differs ids n m there same e f = rw (list_any-append, e, turned n m, f) (either there same)
  where
    turned : (a b : ℕ) → (a == b) ≡ (b == a)
    turned a b = grind (arith, nat_tests)

    either : (there same : Bool) → (not same && not there) ≡ not (there || (same || false))
    either true true = refl
    either true false = refl
    either false true = refl
    either false false = refl

-- with one more number first
abbrev Folds : List Mention → List ℕ → Type 0
Folds ms ids = fold (λ is (m : Mention). with_id is m.id) ids ms ≡ ids ++ new_in ids (ids_of ms)

folds_more : (ms : List Mention) (ids : List ℕ) (n : ℕ) (known : Bool) → is_in ids n ≡ known → ((is : List ℕ) → Folds ms is)
    → fold (λ is (m : Mention). with_id is m.id) (cond known ids (ids ++ n ∷ [])) ms ≡ ids ++ cond (not known) (n ∷ new_in ids (filter (λ m. not (m == n)) (ids_of ms))) (new_in ids (filter (λ m. not (m == n)) (ids_of ms)))
folds_more ms ids n true e rest =
    rest ids
    ∙ ap (λ l. ids ++ l)
    (sym (filter_both (λ m. not (is_in ids m)) (λ m. not (m == n)) (ids_of ms)
    ∙ filter_agree (λ m. not (m == n) && not (is_in ids m)) (λ m. not (is_in ids m)) (λ m. known_differs ids n m (m == n) refl e) (ids_of ms)))
folds_more ms ids n false e rest =
    rest (ids ++ n ∷ []) ∙ append_assoc ids (n ∷ []) (new_in (ids ++ n ∷ []) (ids_of ms))
    ∙ ap (λ l. ids ++ n ∷ l)
    (sym (filter_both (λ m. not (is_in ids m)) (λ m. not (m == n)) (ids_of ms)
    ∙ filter_agree (λ m. not (m == n) && not (is_in ids m)) (λ m. not (is_in (ids ++ n ∷ []) m)) (λ m. new_differs ids n m (is_in ids m) (m == n) refl refl) (ids_of ms)))

folded_from : (ms : List Mention) (ids : List ℕ) → Folds ms ids
folded_from [] ids = sym (append-nil ids)
folded_from (m ∷ ms) ids =
    folds_more ms ids m.id (is_in ids m.id) refl (folded_from ms)

all_new : (ns : List ℕ) → new_in [] ns ≡ ns
all_new [] = refl
all_new (n ∷ ns) = ap (λ l. n ∷ l) (all_new ns)

pub ids_folded : (ms : List Mention) → ids_of ms ≡ fold (λ is (m : Mention). with_id is m.id) [] ms
ids_folded ms = sym (folded_from ms [] ∙ all_new (ids_of ms))
