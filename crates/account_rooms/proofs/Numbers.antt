-- Numbers that pass a test.
use Rattle.std.proofs.Common.{◌≡◌, ◌==◌, ◌||◌, Bool, true, false, not, cond, ℕ, List, [], ◌∷◌, Option, Some, filter, flat_map, if◌then◌else◌, refl, sym, ap, ◌∙◌}
use Rattle.std.proofs.lemmas.Bool.{false≢true, or_right}
use Rattle.std.proofs.lemmas.List.Folds.{list_any-append}
use Rattle.std.specs.List.{list_any}
use Rattle.spec_history.specs.History.{some_object}
use Rattle.spec_history.specs.Pages.{is_in}
use Rattle.spec_json.specs.declared.tree.Tree.{Tree}
use Rattle.spec_bookings.proofs.Tables.{or_false, same_number}

other_test : (p : ℕ → Bool) (b same : Bool) (id n : ℕ) → (n == id) ≡ same → same ≡ false → (if n == id then b else p n) ≡ p n
other_test p b same id n e f = rw (e, f) refl

-- another test of a number that isn't there
pub filter_without : (p : ℕ → Bool) (b : Bool) (id : ℕ) (ns : List ℕ) → is_in ns id ≡ false → filter (λ n. if n == id then b else p n) ns ≡ filter p ns
filter_without p b id [] h = refl
filter_without p b id (n ∷ ns) h =
    let parts = or_false (n == id) (is_in ns id) h in
    rw (parts.0, filter_without p b id ns parts.1) refl

gone_by : (p : ℕ → Bool) (id n : ℕ) (ns ms : List ℕ) (same passes : Bool) → (n == id) ≡ same → p n ≡ passes → ms ≡ filter (λ n. not (n == id)) (filter p ns)
    → cond (cond same false passes) (n ∷ ms) ms ≡ filter (λ n. not (n == id)) (cond passes (n ∷ filter p ns) (filter p ns))
gone_by p id n ns ms true true e f h = rw e h
gone_by p id n ns ms true false e f h = h
gone_by p id n ns ms false true e f h = rw (e, h) refl
gone_by p id n ns ms false false e f h = h

-- a number that doesn't pass any more
pub filter_gone : (p : ℕ → Bool) (id : ℕ) (ns : List ℕ) → filter (λ n. if n == id then false else p n) ns ≡ filter (λ n. not (n == id)) (filter p ns)
filter_gone p id [] = refl
filter_gone p id (n ∷ ns) = gone_by p id n ns (filter (λ n. if n == id then false else p n) ns) (n == id) (p n) refl refl (filter_gone p id ns)

-- a number that doesn't pass isn't among those that do
pub not_in_filter : (p : ℕ → Bool) (id : ℕ) (ns : List ℕ) → p id ≡ false → is_in (filter p ns) id ≡ false
not_in_filter p id [] h = refl
not_in_filter p id (n ∷ ns) h = by_cases (p n) (n == id) refl refl (not_in_filter p id ns h)
  where
    by_cases : (passes same : Bool) → p n ≡ passes → (n == id) ≡ same → is_in (filter p ns) id ≡ false → is_in (cond passes (n ∷ filter p ns) (filter p ns)) id ≡ false
    by_cases false same e f rest = rest
    by_cases true false e f rest = rw f rest
    by_cases true true e f rest = absurd (false≢true (sym h ∙ ap p (sym (same_number n id f)) ∙ e))

-- one of the objects of these numbers passes
pub any_object : (at : ℕ → Option Tree) (p : Tree → Bool) (ids : List ℕ) (id : ℕ) (t : Tree) → is_in ids id ≡ true → at id ≡ Some t → p t ≡ true → list_any p (flat_map (λ n. some_object (at n)) ids) ≡ true
any_object at p [] id t h e passes = absurd (false≢true h)
any_object at p (n ∷ ns) id t h e passes = list_any-append p (some_object (at n)) (flat_map (λ n. some_object (at n)) ns) ∙ by_cases (n == id) refl h (λ g. any_object at p ns id t g e passes)
  where
    by_cases : (same : Bool) → (n == id) ≡ same → (same || is_in ns id) ≡ true → (is_in ns id ≡ true → list_any p (flat_map (λ n. some_object (at n)) ns) ≡ true)
        → (list_any p (some_object (at n)) || list_any p (flat_map (λ n. some_object (at n)) ns)) ≡ true
    by_cases true f g rest = rw (same_number n id f, e, passes) refl
    by_cases false f g rest = or_right (list_any p (some_object (at n))) (list_any p (flat_map (λ n. some_object (at n)) ns)) (rest g)
