-- The place of a key among members: what a binary search finds, and what stands, is written, put in and taken out there.
use Rattle.std.proofs.Common.{◌≡◌, ◌<◌, ◌≤◌, ◌+◌, ℕ, zero, suc, List, [], ◌∷◌, true, false, Some, None, Result, Ok, Err, IfOk, IfErr, HoldsAt, Less, Equal, Greater, Ordering, length, map, set, get_or, insert, remove, refl, sym, ap, subst, ◌∙◌, arith}
use Rattle.std.proofs.lemmas.Bool.{and_from, and_parts}
use Rattle.std.proofs.lemmas.Cmp.{nat_list_cmp_total}
use Rattle.std.proofs.lemmas.List.Sorted.{searchable_from_sorted}
use Rattle.std.proofs.lemmas.Map.Text.{is_eq-slice_cmp}
use Rattle.std.proofs.lemmas.Slice.Eq.{bytes_eq-Decides}
use Rattle.std.specs.Cmp.Lexicographic.{slice_cmp}
use Rattle.std.specs.List.Sorted.{IsBinarySearchResult, IsPartitionPoint, IsSearchInRange, IsSortedByKey}
use Rattle.std.specs.Ordering.{nat_cmp, is_lt, is_eq, ordering_reverse}
use Rattle.spec_json.proofs.EditLemmas.{below_unlike, equal_not_below, lookup_below, not_above, with_below, without_below}
use Rattle.spec_json.proofs.KeyOrder.{above_later}
use Rattle.spec_json.specs.Data.{lookup}
use Rattle.spec_json.specs.Edit.{with_pair, without}
use Rattle.spec_json.specs.ObjectKeys.{is_above, keys_rise}
use Rattle.spec_json.specs.Place.{is_gap_at, is_key_at}
use Rattle.spec_json.specs.TreeData.{data_of, pair_of}
use Rattle.spec_json.specs.declared.tree.Member.{Member}
use Rattle.spec_json.specs.declared.tree.Tree.{Tree}

-- the value at the place of a key is that of the key
pub found_here : (k : List ℕ) (ms : List Member) (i : ℕ) (d : Member) → is_key_at i k ms ≡ true → lookup k (map pair_of ms) ≡ Some (data_of (get_or ms i d).value)
found_here k [] i d h = cc
found_here k (m ∷ ms) zero d h = rw h refl
found_here k (m ∷ ms) (suc i) d h = let at = and_parts _ (is_key_at i k ms) h in rw (below_unlike m.key k at.0) (found_here k ms i d at.1)

-- a value written there is put in
pub put_here : (k : List ℕ) (t : Tree) (ms : List Member) (i : ℕ) (d : Member) → is_key_at i k ms ≡ true
    → with_pair k (data_of t) (map pair_of ms) ≡ map pair_of (set ms i (record { key = (get_or ms i d).key; value = t }))
put_here k t [] i d h = cc
put_here k t (m ∷ ms) zero d h = rw (equal_not_below m.key k h, h, (bytes_eq-Decides m.key k).0 h) refl
put_here k t (m ∷ ms) (suc i) d h = let at = and_parts _ (is_key_at i k ms) h in rw at.0 (ap (λ ps. pair_of m ∷ ps) (put_here k t ms i d at.1))

-- the member removed there is taken out
pub take_here : (k : List ℕ) (ms : List Member) (i : ℕ) → is_key_at i k ms ≡ true → without k (map pair_of ms) ≡ map pair_of (remove ms i)
take_here k [] i h = cc
take_here k (m ∷ ms) zero h = rw h refl
take_here k (m ∷ ms) (suc i) h = let at = and_parts _ (is_key_at i k ms) h in rw (below_unlike m.key k at.0) (ap (λ ps. pair_of m ∷ ps) (take_here k ms i at.1))

-- where a key would go in there is no value of it
pub absent_here : (k : List ℕ) (ms : List Member) (i : ℕ) → is_gap_at i k ms ≡ true → keys_rise (map pair_of ms) ≡ true → lookup k (map pair_of ms) ≡ None
absent_here k [] i h r = refl
absent_here k (m ∷ ms) zero h r = lookup_below k (map pair_of (m ∷ ms)) h r
absent_here k (m ∷ ms) (suc i) h r =
    let at = and_parts _ (is_gap_at i k ms) h in
    rw (below_unlike m.key k at.0) (absent_here k ms i at.1 (and_parts (is_above m.key (map pair_of ms)) (keys_rise (map pair_of ms)) r).1)

-- nor is one taken out
pub nothing_here : (k : List ℕ) (ms : List Member) (i : ℕ) → is_gap_at i k ms ≡ true → keys_rise (map pair_of ms) ≡ true → without k (map pair_of ms) ≡ map pair_of ms
nothing_here k [] i h r = refl
nothing_here k (m ∷ ms) zero h r = without_below k (map pair_of (m ∷ ms)) h r
nothing_here k (m ∷ ms) (suc i) h r =
    let at = and_parts _ (is_gap_at i k ms) h in
    rw (below_unlike m.key k at.0) (ap (λ ps. pair_of m ∷ ps) (nothing_here k ms i at.1 (and_parts (is_above m.key (map pair_of ms)) (keys_rise (map pair_of ms)) r).1))

-- a member inserted there is put in
pub insert_here : (k : List ℕ) (t : Tree) (ms : List Member) (i : ℕ) → is_gap_at i k ms ≡ true → with_pair k (data_of t) (map pair_of ms) ≡ map pair_of (insert ms i (record { key = k; value = t }))
insert_here k t [] zero h = refl
insert_here k t [] (suc i) h = cc
insert_here k t (m ∷ ms) zero h = with_below k (data_of t) (map pair_of (m ∷ ms)) h
insert_here k t (m ∷ ms) (suc i) h = let at = and_parts _ (is_gap_at i k ms) h in rw at.0 (ap (λ ps. pair_of m ∷ ps) (insert_here k t ms i at.1))

abbrev pub key_order : List ℕ → Member → Ordering
key_order k m = slice_cmp nat_cmp m.key k

-- a key below that of the first member is below those of all
all_above : (k : List ℕ) (ms : List Member) (i : ℕ) (d : Member) → is_above k (map pair_of ms) ≡ true → keys_rise (map pair_of ms) ≡ true → i < length ms → is_lt (slice_cmp nat_cmp k (get_or ms i d).key) ≡ true
all_above k [] i d a r h = absurd (omega arith)
all_above k (m ∷ ms) zero d a r h = a
all_above k (m ∷ ms) (suc i) d a r h =
    let rise = and_parts (is_above m.key (map pair_of ms)) (keys_rise (map pair_of ms)) r in
    all_above k ms i d (above_later k (pair_of m) (map pair_of ms) a rise.0) rise.1 (omega arith)

-- neighbours are in order, as a binary search asks
sorted_by_key : (ms : List Member) → keys_rise (map pair_of ms) ≡ true → IsSortedByKey (λ m. m.key) (slice_cmp nat_cmp) ms
sorted_by_key [] r i d a b = absurd (omega arith)
sorted_by_key (m ∷ ms) r zero d a b =
    let rise = and_parts (is_above m.key (map pair_of ms)) (keys_rise (map pair_of ms)) r in
    (not_above m.key (get_or ms 0 d).key (all_above m.key ms 0 d rise.0 rise.1 (omega arith))).0
sorted_by_key (m ∷ ms) r (suc i) d a b =
    let rise = and_parts (is_above m.key (map pair_of ms)) (keys_rise (map pair_of ms)) r in
    subst (λ (n : ℕ). is_lt (slice_cmp nat_cmp (get_or (m ∷ ms) n d).key (get_or ms i d).key) ≡ false) {x = suc (i + 1)} {y = suc i + 1} (omega arith) (sorted_by_key ms rise.1 i d (omega arith) (omega arith))

-- an equal key that is found in order is at its place
found_by : (k : List ℕ) (ms : List Member) (i : ℕ) → keys_rise (map pair_of ms) ≡ true → i < length ms → HoldsAt (λ m. key_order k m ≡ Equal) ms i → is_key_at i k ms ≡ true
found_by k [] i r h e = absurd (omega arith)
found_by k (m ∷ ms) zero r h e = sym (is_eq-slice_cmp m.key k) ∙ ap is_eq (e m)
found_by k (m ∷ ms) (suc i) r h e =
    let rise = and_parts (is_above m.key (map pair_of ms)) (keys_rise (map pair_of ms)) r in
    let here : (get_or ms i m).key ≡ k = (bytes_eq-Decides (get_or ms i m).key k).0 (sym (is_eq-slice_cmp (get_or ms i m).key k) ∙ ap is_eq (e m)) in
    and_from _ _ (subst (λ j. is_lt (slice_cmp nat_cmp m.key j) ≡ true) here (all_above m.key ms i m rise.0 rise.1 (omega arith))) (found_by k ms i rise.1 (omega arith) e)

greater_above : (j k : List ℕ) → slice_cmp nat_cmp j k ≡ Greater → is_lt (slice_cmp nat_cmp k j) ≡ true
greater_above j k h = ap is_lt (nat_list_cmp_total.antisymm k j ∙ ap ordering_reverse h)

-- and so is a gap between those below and those above
gap_by : (k : List ℕ) (ms : List Member) (i : ℕ) → i ≤ length ms → IsPartitionPoint (λ m. key_order k m ≡ Less) (λ m. key_order k m ≡ Greater) ms i → is_gap_at i k ms ≡ true
gap_by k [] zero h p = refl
gap_by k [] (suc i) h p = absurd (omega arith)
gap_by k (m ∷ ms) zero h p = greater_above m.key k (p.1 0 m (omega arith) (omega arith))
gap_by k (m ∷ ms) (suc i) h p =
    and_from _ _ (ap is_lt (p.0 0 m (omega arith) (omega arith)))
    (gap_by k ms i (omega arith) ((λ j d a b. p.0 (suc j) d (omega arith) (omega arith)), (λ j d a b. p.1 (suc j) d (omega arith) (omega arith))))

-- what a binary search finds is the place of the key
pub searched : (k : List ℕ) (ms : List Member) (r : Result ℕ ℕ) → keys_rise (map pair_of ms) ≡ true → IsSearchInRange r (length ms) → IsBinarySearchResult (key_order k) ms r
    → IfOk r (λ i. is_key_at i k ms ≡ true) × IfErr r (λ i. is_gap_at i k ms ≡ true)
searched k ms (Ok i) rise bound equal = (found_by k ms i rise bound equal, tt)
searched k ms (Err i) rise bound parted = (tt, gap_by k ms i bound (parted (searchable_from_sorted nat_list_cmp_total (λ m. m.key) ms k (sorted_by_key ms rise))))
