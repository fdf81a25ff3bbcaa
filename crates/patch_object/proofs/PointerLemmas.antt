-- Prefixes of a path, sought among paths in a set.
use Rattle.std.proofs.Common.{◌≡◌, zero, suc, ◌+◌, ◌<◌, ◌≤◌, ℕ, List, [], ◌∷◌, ◌||◌, ◌⊎◌, ⊎_elim, Bool, true, false, Ordering, Less, Equal, Greater, length, map, take, string_bytes, arith, sym, ap, refl, ◌∙◌, subst}
use Rattle.std.proofs.lemmas.Bool.{and_from, and_parts, cases_lt, or_parts}
use Rattle.std.proofs.lemmas.Map.Text.{is_eq-slice_cmp}
use Rattle.std.proofs.lemmas.Slice.Eq.{bytes_eq-Decides}
use Rattle.std.specs.BTreeMap.{is_at}
use Rattle.std.specs.BTreeSet.{insert_key}
use Rattle.std.specs.Cmp.Lexicographic.{slice_cmp}
use Rattle.std.specs.Global.{Vec}
use Rattle.std.specs.List.{list_any}
use Rattle.std.specs.Ordering.{is_eq, match_ordering, ordering_then}
use Rattle.std.specs.Str.{bytes_eq}
use Rattle.std.specs.String.{string_cmp}
use Rattle.std.proofs.Math.Bool.{or_self_left}
use Rattle.spec_json.specs.Patch.{is_prefix}
use Rattle.patch_object.specs.Paths.{String, has_path, string_parts}
use Rattle.std.proofs.lemmas.List.{take_all}
use Rattle.spec_json.proofs.Booleans.{by_bool, or_swap, same_truth}

equal_then : (o p : Ordering) → is_eq (ordering_then o p) ≡ true → (is_eq o ≡ true) × (is_eq p ≡ true)
equal_then Less p h = cc
equal_then Equal p h = (refl, h)
equal_then Greater p h = cc

then_equal : (o p : Ordering) → is_eq o ≡ true → is_eq p ≡ true → is_eq (ordering_then o p) ≡ true
then_equal Less p h g = cc
then_equal Equal p h g = g
then_equal Greater p h g = cc

equal_strings : (x y : String) → is_eq (string_cmp x y) ≡ true → string_bytes x ≡ string_bytes y
equal_strings x y h = (bytes_eq-Decides (string_bytes x) (string_bytes y)).0 (sym (is_eq-slice_cmp (string_bytes x) (string_bytes y)) ∙ h)

strings_equal : (x y : String) → string_bytes x ≡ string_bytes y → is_eq (string_cmp x y) ≡ true
strings_equal x y h = is_eq-slice_cmp (string_bytes x) (string_bytes y) ∙ (bytes_eq-Decides (string_bytes x) (string_bytes y)).1 h

-- lists of strings that compare equal have the same parts
equal_paths : (xs ys : List String) → is_eq (slice_cmp string_cmp xs ys) ≡ true → map string_bytes xs ≡ map string_bytes ys
equal_paths [] [] h = refl
equal_paths [] (y ∷ ys) h = cc
equal_paths (x ∷ xs) [] h = cc
equal_paths (x ∷ xs) (y ∷ ys) h =
    let parts = equal_then (string_cmp x y) (slice_cmp string_cmp xs ys) h in
    let first = equal_strings x y parts.0 in
    let rest = equal_paths xs ys parts.1 in
    cc

paths_equal : (xs ys : List String) → map string_bytes xs ≡ map string_bytes ys → is_eq (slice_cmp string_cmp xs ys) ≡ true
paths_equal [] [] h = refl
paths_equal [] (y ∷ ys) h = cc
paths_equal (x ∷ xs) [] h = cc
paths_equal (x ∷ xs) (y ∷ ys) h =
    let first : string_bytes x ≡ string_bytes y = cc in
    let rest : map string_bytes xs ≡ map string_bytes ys = cc in
    then_equal (string_cmp x y) (slice_cmp string_cmp xs ys) (strings_equal x y first) (paths_equal xs ys rest)

-- the first parts of a path are a prefix of it
front_is_prefix : (path : List String) (n : ℕ) → is_prefix (map string_bytes (take n path)) (map string_bytes path) ≡ true
front_is_prefix [] zero = refl
front_is_prefix [] (suc n) = refl
front_is_prefix (x ∷ xs) zero = refl
front_is_prefix (x ∷ xs) (suc n) = and_from _ _ ((bytes_eq-Decides (string_bytes x) (string_bytes x)).1 refl) (front_is_prefix xs n)

-- and a prefix is its first parts
prefix_is_front : (e : List (List ℕ)) (path : List String) → is_prefix e (map string_bytes path) ≡ true → (length e ≤ length path) × (map string_bytes (take (length e) path) ≡ e)
prefix_is_front [] path h = (omega arith, refl)
prefix_is_front (p ∷ ps) [] h = cc
prefix_is_front (p ∷ ps) (x ∷ xs) h =
    let parts = and_parts (bytes_eq p (string_bytes x)) (is_prefix ps (map string_bytes xs)) h in
    let first = (bytes_eq-Decides p (string_bytes x)).0 parts.0 in
    let rest = prefix_is_front ps xs parts.1 in
    (omega (arith, rest.0), ap (λ q. q ∷ map string_bytes (take (length ps) xs)) (sym first) ∙ ap (λ qs. p ∷ qs) rest.1)

or_either : (a b c d : Bool) → (a || b) ≡ true → (a ≡ true → c ≡ true) → (b ≡ true → d ≡ true) → (c || d) ≡ true
or_either true b c d h f g = rw (f refl) refl
or_either false b true d h f g = refl
or_either false b false d h f g = g h

-- the test that a look-up of a path's first parts makes of a path
abbrev pub front_at : List String → ℕ → Vec String → Bool
front_at path n k = is_at (λ (v : Vec String). slice_cmp string_cmp (take n path) v.items) k

-- where a look-up of first parts finds a path, it is a prefix
pub found_prefix : (path : List String) (n : ℕ) (keys : List (Vec String)) → list_any (front_at path n) keys ≡ true → list_any (λ e. is_prefix e (map string_bytes path)) (map string_parts keys) ≡ true
found_prefix path n [] h = cc
found_prefix path n (k ∷ ks) h =
    or_either (front_at path n k) (list_any (front_at path n) ks) (is_prefix (string_parts k) (map string_bytes path)) (list_any (λ e. is_prefix e (map string_bytes path)) (map string_parts ks)) h
    (λ e. subst (λ ps. is_prefix ps (map string_bytes path) ≡ true) (equal_paths (take n path) k.items e) (front_is_prefix path n))
    (found_prefix path n ks)

no_prefix_at : (path : List String) (k : Vec String) → ((n : ℕ) → n < length path + 1 → front_at path n k ≡ false) → (b : Bool) → is_prefix (string_parts k) (map string_bytes path) ≡ b → b ≡ false
no_prefix_at path k none true h =
    let front = prefix_is_front (string_parts k) path h in
    let found : front_at path (length (string_parts k)) k ≡ true = paths_equal (take (length (string_parts k)) path) k.items front.1 in
    let not_found = none (length (string_parts k)) (omega (arith, front.0)) in
    cc
no_prefix_at path k none false h = refl

-- where none finds one, there is none
pub no_prefix : (path : List String) (keys : List (Vec String)) → ((n : ℕ) → n < length path + 1 → list_any (front_at path n) keys ≡ false) → list_any (λ e. is_prefix e (map string_bytes path)) (map string_parts keys) ≡ false
no_prefix path [] none = refl
no_prefix path (k ∷ ks) none =
    let here : is_prefix (string_parts k) (map string_bytes path) ≡ false = no_prefix_at path k (λ n h. (or_parts (front_at path n k) (list_any (front_at path n) ks) (none n h)).0) (is_prefix (string_parts k) (map string_bytes path)) refl in
    rw here (no_prefix path ks (λ n h. (or_parts (front_at path n k) (list_any (front_at path n) ks) (none n h)).1))

-- a look-up of no parts finds a path without parts alone
no_front : (path : List String) (keys : List (Vec String)) → list_any (λ e. is_prefix e []) (map string_parts keys) ≡ false → list_any (front_at path 0) keys ≡ false
no_front [] keys empty = by_bool (list_any (front_at [] 0) keys) (λ e. absurd (let found = found_prefix [] 0 keys e in cc)) (λ e. e)
no_front (x ∷ xs) keys empty = by_bool (list_any (front_at (x ∷ xs) 0) keys) (λ e. absurd (let found = found_prefix [] 0 keys e in cc)) (λ e. e)

no_front_at : (path : List String) (keys : List (Vec String)) → list_any (λ e. is_prefix e []) (map string_parts keys) ≡ false → ((n : ℕ) → n < length path → 0 < n → list_any (front_at path n) keys ≡ false)
    → has_path path keys ≡ false → (n : ℕ) → n < length path + 1 → list_any (front_at path n) keys ≡ false
no_front_at path keys empty none absent zero h = no_front path keys empty
no_front_at path keys empty none absent (suc n) h = let short : (suc n < length path) ⊎ (length path ≤ suc n) = cases_lt (suc n) (length path) in
    ⊎_elim (λ l. none (suc n) l (omega arith)) (λ l. ap (λ parts. has_path parts keys) (take_all (suc n) path l) ∙ absent) short

-- where the shorter look-ups find nothing, a path has a prefix exactly where it is there itself
pub itself_or_none : (path : List String) (keys : List (Vec String)) → list_any (λ e. is_prefix e []) (map string_parts keys) ≡ false → ((n : ℕ) → n < length path → 0 < n → list_any (front_at path n) keys ≡ false)
    → has_path path keys ≡ list_any (λ e. is_prefix e (map string_bytes path)) (map string_parts keys)
itself_or_none path keys empty none = same_truth (has_path path keys) (list_any (λ e. is_prefix e (map string_bytes path)) (map string_parts keys))
    (λ there. found_prefix path (length path) keys (ap (λ parts. has_path parts keys) (take_all (length path) path (omega arith)) ∙ there))
    (λ prefixed. by_bool (has_path path keys) (λ there. there) (λ absent. absurd (let unprefixed = no_prefix path keys (no_front_at path keys empty none absent) in cc)))

-- a path with parts adds no empty one
pub with_parts : (path : List (List ℕ)) (b : Bool) → 0 < length path → b ≡ false → (is_prefix path [] || b) ≡ false
with_parts [] b h e = absurd (omega (arith, h))
with_parts (p ∷ ps) b h e = e

abbrev path_cmp : Vec String → Vec String → Ordering
path_cmp x y = slice_cmp string_cmp x.items y.items

any_step : (f : List (List ℕ) → Bool) (k x : Vec String) (xs : List (Vec String)) (o : Ordering) → path_cmp k x ≡ o → list_any f (map string_parts (insert_key path_cmp xs k)) ≡ (f (string_parts k) || list_any f (map string_parts xs))
    → list_any f (map string_parts (match_ordering o (k ∷ x ∷ xs) (x ∷ xs) (x ∷ insert_key path_cmp xs k))) ≡ (f (string_parts k) || list_any f (map string_parts (x ∷ xs)))
any_step f k x xs Less h rest = refl
any_step f k x xs Equal h rest =
    let same : string_parts k ≡ string_parts x = equal_paths k.items x.items (ap is_eq h) in
    rw same (sym (or_self_left (f (string_parts x)) (list_any f (map string_parts xs))))
any_step f k x xs Greater h rest = rw rest (or_swap (f (string_parts x)) (f (string_parts k)) (list_any f (map string_parts xs)))

-- one of the paths passes a test after one is added where it passes, or one of those before does
pub any_inserted : (f : List (List ℕ) → Bool) (ks : List (Vec String)) (k : Vec String) → list_any f (map string_parts (insert_key path_cmp ks k)) ≡ (f (string_parts k) || list_any f (map string_parts ks))
any_inserted f [] k = refl
any_inserted f (x ∷ xs) k = any_step f k x xs (path_cmp k x) refl (any_inserted f xs k)
