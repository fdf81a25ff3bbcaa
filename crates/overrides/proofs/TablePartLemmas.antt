-- What fails in a whole, by a part of it.
use Rattle.std.proofs.Common.{◌≡◌, ℕ, List, [], ◌∷◌, ◌&&◌, ◌||◌, Bool, true, false, not, None, is_some, refl, sym, ap, ◌∙◌}
use Rattle.std.proofs.lemmas.Bool.{and_from, or_right}
use Rattle.std.proofs.lemmas.Slice.Eq.{bytes_eq-Decides}
use Rattle.std.specs.List.{list_all}
use Rattle.std.specs.Str.{bytes_eq}
use mathlib.Core.Bool.{or-false}
use Rattle.spec_json.proofs.KeyOrder.{both}
use Rattle.spec_json.specs.Data.{Pair, lookup}
use Rattle.property_table.proofs.NameLemmas.{has_append, has_filter, has_head, has_keys}
use Rattle.property_table.proofs.TableLemmas.{all_failing}
use Rattle.property_table.specs.Names.{has_name}
use Rattle.property_table.specs.Table.{Table, failing, fails_at, keys_of, names_of, required_names, test_at}
use Rattle.overrides.specs.Parts.{IsPartOf, IsTestedByPart}

has_failing : (t : Table) (ps : List Pair) (n : List ℕ) → has_name (failing t ps) n ≡ ((has_name (names_of t.rows) n || is_some (lookup n ps)) && not (test_at t n (lookup n ps)))
has_failing t ps n =
    (all_failing t ps).exact n
    ∙ ap (λ b. b && fails_at t ps n) (has_append (names_of t.rows) (keys_of ps) n ∙ ap (λ b. has_name (names_of t.rows) n || b) (has_keys ps n))

same_at : (t : Table) (ps qs : List Pair) (n : List ℕ) → lookup n ps ≡ lookup n qs → has_name (failing t ps) n ≡ has_name (failing t qs) n
same_at t ps qs n e =
    has_failing t ps n
    ∙ ap (λ found. (has_name (names_of t.rows) n || is_some found) && not (test_at t n found)) e
    ∙ sym (has_failing t qs n)

none_at : (t : Table) (ps : List Pair) (n : List ℕ) → lookup n ps ≡ None → has_name (failing t ps) n ≡ has_name (required_names t) n
none_at t ps n e =
    has_failing t ps n
    ∙ ap (λ found. (has_name (names_of t.rows) n || is_some found) && not (test_at t n found)) e
    ∙ ap (λ b. b && not (test_at t n None)) (or-false (has_name (names_of t.rows) n))
    ∙ sym (has_filter (λ m. not (test_at t m None)) (names_of t.rows) n)

nothing : (xs : List (List ℕ)) → ((n : List ℕ) → has_name xs n ≡ false) → xs ≡ []
nothing [] h = refl
nothing (x ∷ xs) h = absurd (let e = h x in let some : has_name (x ∷ xs) x ≡ true = has_head x xs in cc)

all_of : (f : List ℕ → Bool) (xs : List (List ℕ)) → ((n : List ℕ) → has_name xs n ≡ true → f n ≡ true) → list_all f xs ≡ true
all_of f [] h = refl
all_of f (x ∷ xs) h = and_from _ _ (h x (has_head x xs)) (all_of f xs (λ n e. h n (or_right (bytes_eq x n) (has_name xs n) e)))

each_at : (f : List ℕ → Bool) (x n : List ℕ) (xs : List (List ℕ)) → f x ≡ true → (has_name xs n ≡ true → f n ≡ true) → (same : Bool) → bytes_eq x n ≡ same → (same || has_name xs n) ≡ true → f n ≡ true
each_at f x n xs t h true e o = sym (ap f ((bytes_eq-Decides x n).0 e)) ∙ t
each_at f x n xs t h false e o = h o

each_of : (f : List ℕ → Bool) (xs : List (List ℕ)) (n : List ℕ) → list_all f xs ≡ true → has_name xs n ≡ true → f n ≡ true
each_of f [] n a h = cc
each_of f (x ∷ xs) n a h = let parts = both (f x) (list_all f xs) a in each_at f x n xs parts.0 (each_of f xs n parts.1) (bytes_eq x n) refl h

-- the part has no bad name but those of the whole
part_none : (t : Table) (f : List ℕ → Bool) (whole part event : List Pair) → IsPartOf t f whole part event → failing t whole ≡ [] → (n : List ℕ) (b : Bool) → f n ≡ b → has_name (failing t part) n ≡ false
part_none t f whole part event p none n true e = sym (same_at t whole part n (p.inside n e)) ∙ ap (λ ns. has_name ns n) none
part_none t f whole part event p none n false e = none_at t part n (p.nothing_else n e) ∙ p.has_required n e

event_in : (t : Table) (f : List ℕ → Bool) (whole part event : List Pair) → IsPartOf t f whole part event → failing t whole ≡ [] → (n : List ℕ) → has_name (failing t event) n ≡ true → (b : Bool) → f n ≡ b → f n ≡ true
event_in t f whole part event p none n h true e = e
event_in t f whole part event p none n h false e = absurd (let w = same_at t whole event n (p.outside n e) in let z = ap (λ ns. has_name ns n) none in cc)

whole_none : (t : Table) (f : List ℕ → Bool) (whole part event : List Pair) → IsPartOf t f whole part event → failing t part ≡ [] → list_all f (failing t event) ≡ true
    → (n : List ℕ) (b there : Bool) → f n ≡ b → has_name (failing t event) n ≡ there → has_name (failing t whole) n ≡ false
whole_none t f whole part event p none all n true there e h = same_at t whole part n (p.inside n e) ∙ ap (λ ns. has_name ns n) none
whole_none t f whole part event p none all n false true e h = absurd (let holds = each_of f (failing t event) n all h in cc)
whole_none t f whole part event p none all n false false e h = same_at t whole event n (p.outside n e) ∙ h

pub tested_by_part : (t : Table) (f : List ℕ → Bool) (whole part event : List Pair) → IsPartOf t f whole part event → IsTestedByPart t f whole part event
tested_by_part t f whole part event p = record {
  to = λ none. (nothing (failing t part) (λ n. part_none t f whole part event p none n (f n) refl), all_of f (failing t event) (λ n h. event_in t f whole part event p none n h (f n) refl));
  from = λ none all. nothing (failing t whole) (λ n. whole_none t f whole part event p none all n (f n) (has_name (failing t event) n) refl refl);
}
