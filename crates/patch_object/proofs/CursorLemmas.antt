-- Members parted at the place of a key: what stands there, and what is put in and taken out there.
use Rattle.std.proofs.Common.{◌≡◌, ◌+◌, ℕ, zero, suc, List, [], ◌∷◌, ◌++◌, Bool, true, false, length, map, get_or, refl, ap, subst, arith, Less}
use Rattle.std.proofs.lemmas.Bool.{and_from, and_parts}
use Rattle.std.proofs.lemmas.Cmp.{nat_list_cmp_total}
use Rattle.std.specs.Cmp.Lexicographic.{slice_cmp}
use Rattle.std.specs.Ordering.{nat_cmp, is_lt}
use Rattle.std.specs.Str.{bytes_eq}
use Rattle.spec_json.proofs.EditLemmas.{below_else, below_unlike, lookup_below, rises_with, rises_without, without_below}
use Rattle.spec_json.proofs.KeyOrder.{above_later, less_of}
use Rattle.spec_json.specs.Data.{Data, Pair, lookup}
use Rattle.spec_json.specs.Edit.{with_pair, without}
use Rattle.spec_json.specs.Merge.{begins_below, without_first}
use Rattle.spec_json.specs.ObjectKeys.{is_above, keys_rise}
use Rattle.spec_json.specs.TreeData.{pair_of}
use Rattle.spec_json.specs.declared.tree.Member.{Member}
use Rattle.patch_object.specs.Cursor.{IsParted, all_below, first_at}
use Rattle.spec_json.proofs.MergeLemmas.{of_same}

below_below : (i j k : List ℕ) → is_lt (slice_cmp nat_cmp i j) ≡ true → is_lt (slice_cmp nat_cmp j k) ≡ true → is_lt (slice_cmp nat_cmp i k) ≡ true
below_below i j k h g = let less : slice_cmp nat_cmp i k ≡ Less = nat_list_cmp_total.trans i j k (less_of _ h) (less_of _ g) in rw less refl

-- where the last key is below another, all are
pub all_below_last : (k : List ℕ) (ms : List Member) (i : ℕ) (d : Member) → i + 1 ≡ length ms → keys_rise (map pair_of ms) ≡ true → is_lt (slice_cmp nat_cmp (get_or ms i d).key k) ≡ true → all_below k (map pair_of ms) ≡ true
all_below_last k [] i d e r h = refl
all_below_last k (m ∷ []) zero d e r h = and_from _ _ h refl
all_below_last k (m ∷ []) (suc i) d e r h = absurd (omega (arith, e))
all_below_last k (m ∷ (n ∷ ns)) zero d e r h = absurd (omega (arith, e))
all_below_last k (m ∷ (n ∷ ns)) (suc i) d e r h =
    let rise = and_parts (is_above m.key (map pair_of (n ∷ ns))) (keys_rise (map pair_of (n ∷ ns))) r in
    let later : all_below k (map pair_of (n ∷ ns)) ≡ true = all_below_last k (n ∷ ns) i d (omega (arith, e)) rise.1 h in
    and_from _ _ (below_below m.key n.key k rise.0 (and_parts (is_lt (slice_cmp nat_cmp n.key k)) (all_below k (map pair_of ns)) later).0) later

pub all_below_none : (k : List ℕ) (ms : List Member) → length ms ≡ 0 → all_below k (map pair_of ms) ≡ true
all_below_none k [] h = refl
all_below_none k (m ∷ ms) h = absurd (omega (arith, h))

pub all_below_push : (k : List ℕ) (ps : List Pair) (p : Pair) → all_below k ps ≡ true → is_lt (slice_cmp nat_cmp p.0 k) ≡ true → all_below k (ps ++ p ∷ []) ≡ true
all_below_push k [] p a h = and_from _ _ h refl
all_below_push k (q ∷ qs) p a h = let at = and_parts _ (all_below k qs) a in and_from _ _ at.0 (all_below_push k qs p at.1 h)

above_front : (k : List ℕ) (ps qs : List Pair) → is_above k (ps ++ qs) ≡ true → is_above k ps ≡ true
above_front k [] qs h = refl
above_front k (p ∷ ps) qs h = h

-- keys that rise do so in each part
pub front_rises : (ps qs : List Pair) → keys_rise (ps ++ qs) ≡ true → keys_rise ps ≡ true
front_rises [] qs h = refl
front_rises (p ∷ ps) qs h = let rise = and_parts (is_above p.0 (ps ++ qs)) (keys_rise (ps ++ qs)) h in and_from _ _ (above_front p.0 ps qs rise.0) (front_rises ps qs rise.1)

back_rises : (ps qs : List Pair) → keys_rise (ps ++ qs) ≡ true → keys_rise qs ≡ true
back_rises [] qs h = h
back_rises (p ∷ ps) qs h = back_rises ps qs (and_parts (is_above p.0 (ps ++ qs)) (keys_rise (ps ++ qs)) h).1

-- a value is put in between the parts
pub with_parted : (k : List ℕ) (v : Data) (before behind : List Pair) → IsParted k before behind → with_pair k v (before ++ behind) ≡ before ++ (k, v) ∷ without_first k behind
with_parted k v [] [] at = refl
with_parted k v [] (p ∷ ps) at = rw at.1 (of_same (bytes_eq p.0 k) (k, v) p ps)
with_parted k v (q ∷ qs) behind at = let below = and_parts (is_lt (slice_cmp nat_cmp q.0 k)) (all_below k qs) at.0 in rw below.0 (ap (λ ms. q ∷ ms) (with_parted k v qs behind (below.1, at.1)))

without_at : (k : List ℕ) (p : Pair) (ps : List Pair) → is_lt (slice_cmp nat_cmp p.0 k) ≡ false → keys_rise (p ∷ ps) ≡ true → (same : Bool) → bytes_eq p.0 k ≡ same → (without k (p ∷ ps) ≡ without_first k (p ∷ ps)) × (lookup k (p ∷ ps) ≡ first_at k (p ∷ ps))
without_at k p ps b r true s = rw s (refl, refl)
without_at k p ps b r false s =
    let rise = and_parts (is_above p.0 ps) (keys_rise ps) r in
    let above : is_above k ps ≡ true = above_later k p ps (below_else p.0 k b s) rise.0 in
    rw s (ap (λ qs. p ∷ qs) (without_below k ps above rise.1), lookup_below k ps above rise.1)

-- and taken out where the second part begins
pub without_parted : (k : List ℕ) (before behind : List Pair) → IsParted k before behind → keys_rise (before ++ behind) ≡ true → without k (before ++ behind) ≡ before ++ without_first k behind
without_parted k [] [] at r = refl
without_parted k [] (p ∷ ps) at r = (without_at k p ps at.1 r (bytes_eq p.0 k) refl).0
without_parted k (q ∷ qs) behind at r =
    let below = and_parts (is_lt (slice_cmp nat_cmp q.0 k)) (all_below k qs) at.0 in
    rw (below_unlike q.0 k below.0) (ap (λ ms. q ∷ ms) (without_parted k qs behind (below.1, at.1) (and_parts (is_above q.0 (qs ++ behind)) (keys_rise (qs ++ behind)) r).1))

-- where it is found
pub lookup_parted : (k : List ℕ) (before behind : List Pair) → IsParted k before behind → keys_rise (before ++ behind) ≡ true → lookup k (before ++ behind) ≡ first_at k behind
lookup_parted k [] [] at r = refl
lookup_parted k [] (p ∷ ps) at r = (without_at k p ps at.1 r (bytes_eq p.0 k) refl).1
lookup_parted k (q ∷ qs) behind at r =
    let below = and_parts (is_lt (slice_cmp nat_cmp q.0 k)) (all_below k qs) at.0 in
    rw (below_unlike q.0 k below.0) (lookup_parted k qs behind (below.1, at.1) (and_parts (is_above q.0 (qs ++ behind)) (keys_rise (qs ++ behind)) r).1)

-- the parts with the value put in, or the one at the key taken out, are in order
pub rises_with_parted : (k : List ℕ) (v : Data) (before behind : List Pair) → IsParted k before behind → keys_rise (before ++ behind) ≡ true → keys_rise (before ++ (k, v) ∷ without_first k behind) ≡ true
rises_with_parted k v before behind at r = subst (λ ms. keys_rise ms ≡ true) (with_parted k v before behind at) (rises_with k v (before ++ behind) r)

pub rises_without_parted : (k : List ℕ) (before behind : List Pair) → IsParted k before behind → keys_rise (before ++ behind) ≡ true → keys_rise (before ++ without_first k behind) ≡ true
rises_without_parted k before behind at r = subst (λ ms. keys_rise ms ≡ true) (without_parted k before behind at r) (rises_without k (before ++ behind) r)

pub first_below : (k : List ℕ) (p : Pair) (rest ps : List Pair) → ps ≡ p ∷ rest → begins_below k ps ≡ true → is_lt (slice_cmp nat_cmp p.0 k) ≡ true
first_below k p rest ps e b = subst (λ qs. begins_below k qs ≡ true) e b
