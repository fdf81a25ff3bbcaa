-- Lists of names in byte order: what a list has determines it.
use Rattle.std.proofs.Common.{◌≡◌, ℕ, List, [], ◌∷◌, ◌++◌, ◌&&◌, ◌||◌, Bool, true, false, filter, map, Some, is_some, if◌then◌else◌, arith, refl, sym, ap, ◌∙◌, Ordering, Less, Equal, Greater}
use Rattle.std.proofs.lemmas.Cmp.{nat_list_cmp_total}
use Rattle.std.proofs.lemmas.Map.Text.{is_eq-slice_cmp}
use Rattle.std.proofs.lemmas.Slice.Eq.{bytes_eq-Decides}
use Rattle.std.specs.Cmp.Lexicographic.{slice_cmp}
use Rattle.std.specs.Ordering.{nat_cmp, is_lt, is_eq, ordering_reverse}
use Rattle.std.specs.Str.{bytes_eq}
use Rattle.std.proofs.lemmas.Bool.{and_parts}
use Rattle.std.proofs.Math.Bool.{and-false, or_assoc}
use Rattle.spec_json.proofs.EditLemmas.{lookup_below, rises_with}
use Rattle.spec_json.specs.Data.{Pair, lookup, null}
use Rattle.spec_json.specs.Edit.{with_pair}
use Rattle.spec_json.specs.ObjectKeys.{is_above, keys_rise}
use Rattle.property_table.specs.Names.{put_name, in_byte_order, has_name, is_below_first, names_rise}
use Rattle.property_table.specs.Table.{keys_of}
use Rattle.spec_json.proofs.KeyOrder.{same_key}
use Rattle.spec_json.proofs.Booleans.{or_swap}

abbrev cmp : List ℕ → List ℕ → Ordering
cmp j k = slice_cmp nat_cmp j k

-- Names as the keys of an object.
abbrev as_keys : List (List ℕ) → List Pair
as_keys ns = map (λ n. (n, null)) ns

-- an object has just the keys at which it has a value
pub has_keys : (ps : List Pair) (k : List ℕ) → has_name (keys_of ps) k ≡ is_some (lookup k ps)
has_keys [] k = refl
has_keys (p ∷ ps) k = at (bytes_eq p.0 k) (has_keys ps k)
  where
    at : (same : Bool) → has_name (keys_of ps) k ≡ is_some (lookup k ps) → (same || has_name (keys_of ps) k) ≡ is_some (if same then Some p.1 else lookup k ps)
    at true h = refl
    at false h = h

back : (ns : List (List ℕ)) → keys_of (as_keys ns) ≡ ns
back [] = refl
back (n ∷ ns) = ap (λ ms. n ∷ ms) (back ns)

below_is : (n : List ℕ) (ms : List (List ℕ)) → is_below_first n ms ≡ is_above n (as_keys ms)
below_is n [] = refl
below_is n (m ∷ ms) = refl

pub rise_is : (ns : List (List ℕ)) → names_rise ns ≡ keys_rise (as_keys ns)
rise_is [] = refl
rise_is (n ∷ ns) = ap (λ b. b && names_rise ns) (below_is n ns) ∙ ap (λ b. is_above n (as_keys ns) && b) (rise_is ns)

put_is : (n : List ℕ) (ms : List (List ℕ)) → as_keys (put_name n ms) ≡ with_pair n null (as_keys ms)
put_is n [] = refl
put_is n (m ∷ ms) = at (put_is n ms) (is_lt (cmp m n)) (bytes_eq m n) refl
  where
    at : as_keys (put_name n ms) ≡ with_pair n null (as_keys ms) → (below same : Bool) → bytes_eq m n ≡ same
        → as_keys (if below then m ∷ put_name n ms else if same then m ∷ ms else n ∷ m ∷ ms)
        ≡ (if below then (m, null) ∷ with_pair n null (as_keys ms) else if same then (n, null) ∷ as_keys ms else (n, null) ∷ (m, null) ∷ as_keys ms)
    at h true same e = ap (λ ps. (m, null) ∷ ps) h
    at h false true e = ap (λ k. (k, null) ∷ as_keys ms) ((bytes_eq-Decides m n).0 e)
    at h false false e = refl

pub rises_put : (n : List ℕ) (ms : List (List ℕ)) → names_rise ms ≡ true → names_rise (put_name n ms) ≡ true
rises_put n ms r = rise_is (put_name n ms) ∙ ap keys_rise (put_is n ms) ∙ rises_with n null (as_keys ms) (sym (rise_is ms) ∙ r)

-- a name below the first of some names is none of theirs
not_in : (n : List ℕ) (ms : List (List ℕ)) → is_below_first n ms ≡ true → names_rise ms ≡ true → has_name ms n ≡ false
not_in n ms h r =
    ap (λ ns. has_name ns n) (sym (back ms)) ∙ has_keys (as_keys ms) n
    ∙ ap is_some (lookup_below n (as_keys ms) (sym (below_is n ms) ∙ h) (sym (rise_is ms) ∙ r))

pub has_head : (n : List ℕ) (ms : List (List ℕ)) → has_name (n ∷ ms) n ≡ true
has_head n ms = rw (same_key n) refl

-- how two names lie to each other
equal_of : (j k : List ℕ) → cmp j k ≡ Equal → j ≡ k
equal_of j k h = (bytes_eq-Decides j k).0 (sym (is_eq-slice_cmp j k) ∙ ap is_eq h)

greater_back : (j k : List ℕ) → cmp j k ≡ Greater → is_lt (cmp k j) ≡ true
greater_back j k h = ap is_lt (nat_list_cmp_total.antisymm k j ∙ ap ordering_reverse h)

tails_agree : (x : List ℕ) (xs ys : List (List ℕ)) → has_name xs x ≡ false → has_name ys x ≡ false → ((n : List ℕ) → has_name (x ∷ xs) n ≡ has_name (x ∷ ys) n) → (n : List ℕ) (same : Bool) → bytes_eq x n ≡ same → has_name xs n ≡ has_name ys n
tails_agree x xs ys a b h n true e = let is : x ≡ n = (bytes_eq-Decides x n).0 e in ap (has_name xs) (sym is) ∙ a ∙ sym b ∙ ap (has_name ys) is
tails_agree x xs ys a b h n false e = let eq : (bytes_eq x n || has_name xs n) ≡ (bytes_eq x n || has_name ys n) = h n in grind (arith, eq, e)

unique_by : (x : List ℕ) (xs : List (List ℕ)) (y : List ℕ) (ys : List (List ℕ)) → names_rise (x ∷ xs) ≡ true → names_rise (y ∷ ys) ≡ true → ((n : List ℕ) → has_name (x ∷ xs) n ≡ has_name (y ∷ ys) n)
    → ((zs : List (List ℕ)) → names_rise xs ≡ true → names_rise zs ≡ true → ((n : List ℕ) → has_name xs n ≡ has_name zs n) → xs ≡ zs)
    → (o : Ordering) → cmp x y ≡ o → x ∷ xs ≡ y ∷ ys
unique_by x xs y ys r s h next Less e =
    absurd (let none : has_name (y ∷ ys) x ≡ false = not_in x (y ∷ ys) (ap is_lt e) s in let some : has_name (x ∷ xs) x ≡ true = has_head x xs in let eq = h x in cc)
unique_by x xs y ys r s h next Greater e =
    absurd (let none : has_name (x ∷ xs) y ≡ false = not_in y (x ∷ xs) (greater_back x y e) r in let some : has_name (y ∷ ys) y ≡ true = has_head y ys in let eq = h y in cc)
unique_by x xs y ys r s h next Equal e =
    let is : x ≡ y = equal_of x y e in
    let rise = and_parts (is_below_first x xs) (names_rise xs) r in
    let sise = and_parts (is_below_first y ys) (names_rise ys) s in
    let agree : (n : List ℕ) → has_name (x ∷ xs) n ≡ has_name (x ∷ ys) n = λ n. h n ∙ ap (λ z. has_name (z ∷ ys) n) (sym is) in
    let none : has_name ys x ≡ false = ap (has_name ys) is ∙ not_in y ys sise.0 sise.1 in
    ap (λ z. z ∷ xs) is ∙ ap (λ zs. y ∷ zs) (next ys rise.1 sise.1 (λ n. tails_agree x xs ys (not_in x xs rise.0 rise.1) none agree n (bytes_eq x n) refl))

-- two lists in byte order that have the same names are one
pub unique : (xs ys : List (List ℕ)) → names_rise xs ≡ true → names_rise ys ≡ true → ((n : List ℕ) → has_name xs n ≡ has_name ys n) → xs ≡ ys
unique [] [] r s h = refl
unique [] (y ∷ ys) r s h = absurd (let eq = h y in let some : has_name (y ∷ ys) y ≡ true = has_head y ys in cc)
unique (x ∷ xs) [] r s h = absurd (let eq = h x in let some : has_name (x ∷ xs) x ≡ true = has_head x xs in cc)
unique (x ∷ xs) (y ∷ ys) r s h = unique_by x xs y ys r s h (λ zs a b k. unique xs zs a b k) (cmp x y) refl

-- What a list has after each of the steps by which one is made.
twice : (a b c : Bool) → a ≡ b → (a || c) ≡ (b || (a || c))
twice true true c e = refl
twice false false c e = refl
twice true false c e = cc
twice false true c e = cc

has_same : (m n k : List ℕ) (ms : List (List ℕ)) → bytes_eq m n ≡ true → has_name (m ∷ ms) k ≡ (bytes_eq n k || has_name (m ∷ ms) k)
has_same m n k ms e = let is : m ≡ n = (bytes_eq-Decides m n).0 e in twice (bytes_eq m k) (bytes_eq n k) (has_name ms k) (ap (λ z. bytes_eq z k) is)

has_put_at : (n k m : List ℕ) (ms : List (List ℕ)) → has_name (put_name n ms) k ≡ (bytes_eq n k || has_name ms k) → (below same : Bool) → bytes_eq m n ≡ same
    → has_name (if below then m ∷ put_name n ms else if same then m ∷ ms else n ∷ m ∷ ms) k ≡ (bytes_eq n k || has_name (m ∷ ms) k)
has_put_at n k m ms h true same e = ap (λ b. bytes_eq m k || b) h ∙ or_swap (bytes_eq m k) (bytes_eq n k) (has_name ms k)
has_put_at n k m ms h false true e = has_same m n k ms e
has_put_at n k m ms h false false e = refl

pub has_put : (n k : List ℕ) (ms : List (List ℕ)) → has_name (put_name n ms) k ≡ (bytes_eq n k || has_name ms k)
has_put n k [] = refl
has_put n k (m ∷ ms) = has_put_at n k m ms (has_put n k ms) (is_lt (cmp m n)) (bytes_eq m n) refl

pub rises_ordered : (ns : List (List ℕ)) → names_rise (in_byte_order ns) ≡ true
rises_ordered [] = refl
rises_ordered (n ∷ ns) = rises_put n (in_byte_order ns) (rises_ordered ns)

pub has_ordered : (ns : List (List ℕ)) (k : List ℕ) → has_name (in_byte_order ns) k ≡ has_name ns k
has_ordered [] k = refl
has_ordered (n ∷ ns) k = has_put n k (in_byte_order ns) ∙ ap (λ b. bytes_eq n k || b) (has_ordered ns k)

pub has_append : (xs ys : List (List ℕ)) (k : List ℕ) → has_name (xs ++ ys) k ≡ (has_name xs k || has_name ys k)
has_append [] ys k = refl
has_append (x ∷ xs) ys k = ap (λ b. bytes_eq x k || b) (has_append xs ys k) ∙ sym (or_assoc (bytes_eq x k) (has_name xs k) (has_name ys k))

has_filter_at : (test : List ℕ → Bool) (n k : List ℕ) (ns : List (List ℕ)) → has_name (filter test ns) k ≡ (has_name ns k && test k) → (passes same : Bool) → test n ≡ passes → bytes_eq n k ≡ same
    → has_name (if passes then n ∷ filter test ns else filter test ns) k ≡ ((same || has_name ns k) && test k)
has_filter_at test n k ns h true true t e = let is : n ≡ k = (bytes_eq-Decides n k).0 e in rw e (sym (sym (ap test is) ∙ t))
has_filter_at test n k ns h true false t e = rw e h
has_filter_at test n k ns h false true t e = let is : n ≡ k = (bytes_eq-Decides n k).0 e in let no : test k ≡ false = sym (ap test is) ∙ t in h ∙ rw no (and-false (has_name ns k))
has_filter_at test n k ns h false false t e = h

pub has_filter : (test : List ℕ → Bool) (ns : List (List ℕ)) (k : List ℕ) → has_name (filter test ns) k ≡ (has_name ns k && test k)
has_filter test [] k = refl
has_filter test (n ∷ ns) k = has_filter_at test n k ns (has_filter test ns k) (test n) (bytes_eq n k) refl refl
