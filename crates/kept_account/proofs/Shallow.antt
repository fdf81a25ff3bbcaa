-- How deep a value nests, by what its parts are.
use Rattle.std.proofs.Common.{◌≡◌, ◌≤◌, ℕ, List, [], ◌∷◌, Bool, true, false, cond, Option, Some, None, refl, sym, ap, ◌∙◌, arith}
use Rattle.std.proofs.lemmas.Bool.{and_parts, false≢true}
use Rattle.std.proofs.lemmas.Option.{none-some}
use Rattle.std.proofs.lemmas.Slice.Eq.{bytes_eq-Decides}
use Rattle.std.specs.Prelude.{is_some, option_and_then, option_map}
use Rattle.std.specs.List.{list_all}
use Rattle.std.specs.Str.{bytes_eq}
use Rattle.spec_json.proofs.EditLemmas.{lookup_below}
use Rattle.spec_json.proofs.KeyOrder.{same_key}
use Rattle.spec_json.specs.Data.{Data, Items, Members, Pair, depth, item, items_depth, list_of, lookup, member, members_depth, no_items, no_members, pairs_of}
use Rattle.spec_json.specs.Fit.{AreFit, IsFit, MembersAreFit}
use Rattle.spec_json.specs.ObjectKeys.{is_above, keys_rise}
use Rattle.spec_json.specs.Parts.{all_some}

-- ---- what is there

pub some_is : {A : Type 0} (o : Option A) → is_some o ≡ true → (x : A) × (o ≡ Some x)
some_is None h = absurd (false≢true h)
some_is (Some x) h = (x, refl)

pub some_then : {A B : Type 0} (f : A → Option B) (o : Option A) → is_some (option_and_then f o) ≡ true → (x : A) × (o ≡ Some x) × (is_some (f x) ≡ true)
some_then f None h = absurd (false≢true h)
some_then f (Some x) h = (x, refl, h)

pub some_mapped : {A B : Type 0} (f : A → B) (o : Option A) → is_some (option_map f o) ≡ true → is_some o ≡ true
some_mapped f None h = h
some_mapped f (Some x) h = refl

-- ---- the items of a list

all_some_first : {Y : Type 0} (f : Data → Option Y) (d : Data) (ds : List Data) → is_some (all_some f (d ∷ ds)) ≡ true → (is_some (f d) ≡ true) × (is_some (all_some f ds) ≡ true)
all_some_first f d ds h =
    let one = some_then (λ y. option_map (λ ys. y ∷ ys) (all_some f ds)) (f d) h in
    (ap is_some one.1, some_mapped (λ ys. one.0 ∷ ys) (all_some f ds) one.2)

-- items that are read each are no deeper than such as are read
pub items_within : {Y : Type 0} (f : Data → Option Y) (n : ℕ) (ds : Items) → AreFit ds → is_some (all_some f (list_of ds)) ≡ true
    → ((d : Data) → IsFit d → is_some (f d) ≡ true → depth d ≤ n) → items_depth ds ≤ n
items_within f n no_items fit read each = omega arith
items_within f n (item d ds) fit read each =
    let both = all_some_first f d (list_of ds) read in
    let here = each d fit.0 both.0 in
    let rest = items_within f n ds fit.1 both.1 each in
    omega (arith, here, rest)

-- ---- the members of an object

not_there : (k j : List ℕ) (ms : Members) (d : Data) (b : Bool) → bytes_eq k j ≡ b → is_above k (pairs_of ms) ≡ true → keys_rise (pairs_of ms) ≡ true → lookup j (pairs_of ms) ≡ Some d → b ≡ false
not_there k j ms d false e above rise found = refl
not_there k j ms d true e above rise found =
    let same : k ≡ j = (bytes_eq-Decides k j).0 e in
    let none : lookup j (pairs_of ms) ≡ None = ap (λ i. lookup i (pairs_of ms)) (sym same) ∙ lookup_below k (pairs_of ms) above rise in
    absurd (none-some d (sym none ∙ found))

found_behind : (k j : List ℕ) (v d : Data) (ms : Members) → is_above k (pairs_of ms) ≡ true → keys_rise (pairs_of ms) ≡ true → lookup j (pairs_of ms) ≡ Some d → lookup j (pairs_of (member k v ms)) ≡ Some d
found_behind k j v d ms above rise found = rw (not_there k j ms d (bytes_eq k j) refl above rise found) found

-- the value at a key is one of an object's, where its keys are distinct
pub members_within : (n : ℕ) (ms : Members) → keys_rise (pairs_of ms) ≡ true → MembersAreFit ms
    → ((k : List ℕ) (d : Data) → lookup k (pairs_of ms) ≡ Some d → IsFit d → depth d ≤ n) → members_depth ms ≤ n
members_within n no_members rise fit each = omega arith
members_within n (member k v ms) rise fit each =
    let parts = and_parts (is_above k (pairs_of ms)) (keys_rise (pairs_of ms)) rise in
    let here = each k v (rw (same_key k) refl) fit.0 in
    let rest = members_within n ms parts.1 fit.1 (λ j d found. each j d (found_behind k j v d ms parts.0 parts.1 found)) in
    omega (arith, here, rest)

at_pair : (test : List ℕ → Data → Bool) (k : List ℕ) (p : Pair) (ps : List Pair) (v : Data) (b : Bool) → bytes_eq p.0 k ≡ b → test p.0 p.1 ≡ true → (lookup k ps ≡ Some v → test k v ≡ true)
    → cond b (Some p.1) (lookup k ps) ≡ Some v → test k v ≡ true
at_pair test k p ps v true e here rest found =
    let same : p.0 ≡ k = (bytes_eq-Decides p.0 k).0 e in
    let value : p.1 ≡ v = cc in
    (λ i. test (sym same i) (sym value i)) ∙ here
at_pair test k p ps v false e here rest found = rest found

-- what passes of each member passes of the value at a key
pub value_passes : (test : List ℕ → Data → Bool) (k : List ℕ) (ps : List Pair) (v : Data) → list_all (λ p. test p.0 p.1) ps ≡ true → lookup k ps ≡ Some v → test k v ≡ true
value_passes test k [] v all found = absurd (none-some v found)
value_passes test k (p ∷ ps) v all found =
    let both = and_parts (test p.0 p.1) (list_all (λ q. test q.0 q.1) ps) all in
    at_pair test k p ps v (bytes_eq p.0 k) refl both.0 (value_passes test k ps v both.1) found
