-- Changes that go through the same member are made in it at once.
use Rattle.std.proofs.Common.{◌≡◌, zero, suc, ◌+◌, ◌<◌, ◌≤◌, ℕ, List, [], ◌∷◌, ◌++◌, Bool, true, false, Some, None, get_or, drop, take, length, map, add-one, arith, sym, ap, refl, ◌∙◌, subst}
use Rattle.std.proofs.lemmas.Bool.{and_from, and_parts}
use Rattle.std.proofs.lemmas.List.{drop-drop, map-append, take-append-drop, drop_all}
use Rattle.std.proofs.lemmas.Slice.Eq.{bytes_eq-Decides}
use Rattle.std.specs.Cmp.Lexicographic.{slice_cmp}
use Rattle.std.specs.Ordering.{nat_cmp, is_lt}
use Rattle.std.specs.Str.{bytes_eq}
use Rattle.spec_json.proofs.EditLemmas.{below_unlike, equal_not_below, with_pair-without}
use Rattle.spec_json.specs.Data as own
use Rattle.spec_json.specs.Data.{Data, Pair, lookup, members_of, object, pairs_back, pairs_of}
use Rattle.spec_json.specs.Edit.{with_pair, without}
use Rattle.spec_json.specs.ObjectKeys.{keys_rise}
use Rattle.spec_json.specs.Patch.{on_members, placed_in, put_or_removed}
use Rattle.spec_json.specs.TreeData.{data_of}
use Rattle.patch_object.proofs.Paths.{without-absent}
use Rattle.patch_object.specs.Edits.{Change, all_through, all_through_first, behind_first, change_from, goes_through, is_group, longest, placed_each}
use Rattle.patch_object.specs.declared.place.Edit.{Edit}
use Rattle.spec_json.proofs.KeyOrder.{same_key}

lookup_step : (k : List ℕ) (v : Data) (p : Pair) (ps : List Pair) → lookup k (with_pair k v ps) ≡ Some v → (below same : Bool) → is_lt (slice_cmp nat_cmp p.0 k) ≡ below → bytes_eq p.0 k ≡ same → lookup k (with_pair k v (p ∷ ps)) ≡ Some v
lookup_step k v p ps h true same b s = rw (b, below_unlike p.0 k b) h
lookup_step k v p ps h false true b s = rw (b, s, same_key k) refl
lookup_step k v p ps h false false b s = rw (b, s, same_key k) refl

-- what was put in is found
lookup_with : (k : List ℕ) (v : Data) (ps : List Pair) → lookup k (with_pair k v ps) ≡ Some v
lookup_with k v [] = rw (same_key k) refl
lookup_with k v (p ∷ ps) = lookup_step k v p ps (lookup_with k v ps) (is_lt (slice_cmp nat_cmp p.0 k)) (bytes_eq p.0 k) refl refl

with_step : (k : List ℕ) (u v : Data) (p : Pair) (ps : List Pair) → with_pair k v (with_pair k u ps) ≡ with_pair k v ps → (below same : Bool) → is_lt (slice_cmp nat_cmp p.0 k) ≡ below → bytes_eq p.0 k ≡ same
    → with_pair k v (with_pair k u (p ∷ ps)) ≡ with_pair k v (p ∷ ps)
with_step k u v p ps h true same b s = rw (b, b) (ap (λ qs. p ∷ qs) h)
with_step k u v p ps h false true b s = rw (b, s, equal_not_below k k (same_key k), same_key k) refl
with_step k u v p ps h false false b s = rw (b, s, equal_not_below k k (same_key k), same_key k) refl

-- and put in again in its place
with_with : (k : List ℕ) (u v : Data) (ps : List Pair) → with_pair k v (with_pair k u ps) ≡ with_pair k v ps
with_with k u v [] = rw (equal_not_below k k (same_key k), same_key k) refl
with_with k u v (p ∷ ps) = with_step k u v p ps (with_with k u v ps) (is_lt (slice_cmp nat_cmp p.0 k)) (bytes_eq p.0 k) refl refl

pub on_on : (f g : List Pair → List Pair) (d : Data) → on_members f (on_members g d) ≡ on_members (λ ms. f (g ms)) d
on_on f g own.null = refl
on_on f g (own.truth b) = refl
on_on f g (own.whole n) = refl
on_on f g (own.text s) = refl
on_on f g (own.list ds) = refl
on_on f g (object ms) = ap (λ ps. object (members_of (f ps))) (pairs_back (g (pairs_of ms)))

through_found : (k : List ℕ) (path : List (List ℕ)) (v d : Data) (ms : List Pair) → goes_through k path ≡ true → lookup k ms ≡ Some d → placed_in path v ms ≡ with_pair k (on_members (λ ns. placed_in (drop 1 path) v ns) d) ms
through_found k [] v d ms t h = cc
through_found k (p ∷ []) v d ms t h = cc
through_found k (p ∷ (q ∷ ps)) v d ms t h = rw ((bytes_eq-Decides p k).0 t, h) refl

through_absent : (k : List ℕ) (path : List (List ℕ)) (v : Data) (ms : List Pair) → goes_through k path ≡ true → lookup k ms ≡ None → placed_in path v ms ≡ ms
through_absent k [] v ms t h = cc
through_absent k (p ∷ []) v ms t h = cc
through_absent k (p ∷ (q ∷ ps)) v ms t h = rw ((bytes_eq-Decides p k).0 t, h) refl

-- changes through a member that is there
all_found : (k : List ℕ) (e : Change) (es : List Change) (d : Data) (ms : List Pair) → all_through k (e ∷ es) ≡ true → lookup k ms ≡ Some d → placed_each (e ∷ es) ms ≡ with_pair k (on_members (placed_each (map behind_first (e ∷ es))) d) ms
all_found k e [] d ms t h = through_found k e.0 e.1 d ms (and_parts (goes_through k e.0) true t).0 h
all_found k e (f ∷ fs) d ms t h =
    let through = and_parts (goes_through k e.0) (all_through k (f ∷ fs)) t in
    let first : Data = on_members (λ ns. placed_in (drop 1 e.0) e.1 ns) d in
    ap (λ ns. placed_each (f ∷ fs) ns) (through_found k e.0 e.1 d ms through.0 h)
    ∙ all_found k f fs first (with_pair k first ms) through.1 (lookup_with k first ms)
    ∙ with_with k first (on_members (placed_each (map behind_first (f ∷ fs))) first) ms
    ∙ ap (λ c. with_pair k c ms) (on_on (placed_each (map behind_first (f ∷ fs))) (λ ns. placed_in (drop 1 e.0) e.1 ns) d)

-- and through one that isn't
all_absent : (k : List ℕ) (es : List Change) (ms : List Pair) → all_through k es ≡ true → lookup k ms ≡ None → placed_each es ms ≡ ms
all_absent k [] ms t h = refl
all_absent k (e ∷ es) ms t h =
    let through = and_parts (goes_through k e.0) (all_through k es) t in
    rw (through_absent k e.0 e.1 ms through.0 h) (all_absent k es ms through.1 h)

-- changes made in two goes
pub placed_on : (es fs : List Change) (ms : List Pair) → placed_each fs (placed_each es ms) ≡ placed_each (es ++ fs) ms
placed_on [] fs ms = refl
placed_on (e ∷ es) fs ms = placed_on es fs (placed_in e.0 e.1 ms)

-- ---- groups of edits, by what the path of the first is

last_left : (ps : List (List ℕ)) (i : ℕ) (k d : List ℕ) → i + 1 ≡ length ps → k ≡ get_or ps i d → drop i ps ≡ k ∷ []
last_left [] i k d h e = absurd (omega (arith, h))
last_left (p ∷ []) zero k d h e = ap (λ j. j ∷ []) (sym e)
last_left (p ∷ (q ∷ ps)) zero k d h e = absurd (omega (arith, h))
last_left (p ∷ ps) (suc i) k d h e = last_left ps i k d (omega (arith, h)) e

-- two parts at least are left
more_left : (ps : List (List ℕ)) (i : ℕ) (k d : List ℕ) → i + 1 < length ps → k ≡ get_or ps i d → (q : List ℕ) × (qs : List (List ℕ)) × (drop i ps ≡ k ∷ (q ∷ qs))
more_left [] i k d h e = absurd (omega arith)
more_left (p ∷ []) i k d h e = absurd (omega arith)
more_left (p ∷ (q ∷ ps)) zero k d h e = (q, ps, ap (λ j. j ∷ (q ∷ ps)) (sym e))
more_left (p ∷ (q ∷ ps)) (suc i) k d h e = more_left (q ∷ ps) i k d (omega arith) e

behind_drop : (ps : List (List ℕ)) (i : ℕ) → drop 1 (drop i ps) ≡ drop (suc i) ps
behind_drop [] zero = refl
behind_drop [] (suc i) = refl
behind_drop (p ∷ ps) zero = refl
behind_drop (p ∷ ps) (suc i) = behind_drop ps i

behind_all : (gs : List Edit) (i : ℕ) → map behind_first (map (change_from i) gs) ≡ map (change_from (i + 1)) gs
behind_all [] i = refl
behind_all (g ∷ gs) i = let first : behind_first (change_from i g) ≡ change_from (i + 1) g = rw (add-one i) (ap (λ ps. (ps, data_of g.value.now)) (behind_drop g.pointer i)) in ap (λ e. e ∷ map behind_first (map (change_from i) gs)) first ∙ ap (λ es. change_from (i + 1) g ∷ es) (behind_all gs i)

pub group_ended : (gs : List Edit) (i : ℕ) (e : Edit) (ms : List Pair) → is_group (map (change_from i) gs) ≡ true → length (get_or gs 0 e).pointer ≤ i → ms ≡ placed_each (map (change_from i) gs) ms
group_ended [] i e ms g h = cc
group_ended (f ∷ []) i e ms g h = rw (drop_all i f.pointer h) refl
group_ended (f ∷ (f' ∷ fs)) i e ms g h = let none : all_through_first [] (map (change_from i) (f ∷ (f' ∷ fs))) ≡ true = subst (λ ps. all_through_first ps (map (change_from i) (f ∷ (f' ∷ fs))) ≡ true) (drop_all i f.pointer h) g in cc

pub group_leaf : (gs : List Edit) (i : ℕ) (e : Edit) (k d : List ℕ) (ms : List Pair) → is_group (map (change_from i) gs) ≡ true → i + 1 ≡ length (get_or gs 0 e).pointer → k ≡ get_or (get_or gs 0 e).pointer i d
    → put_or_removed k (data_of (get_or gs 0 e).value.now) ms ≡ placed_each (map (change_from i) gs) ms
group_leaf [] i e k d ms g h at = cc
group_leaf (f ∷ []) i e k d ms g h at = rw (last_left f.pointer i k d h at) refl
group_leaf (f ∷ (f' ∷ fs)) i e k d ms g h at =
    let through : all_through k (map (change_from i) (f ∷ (f' ∷ fs))) ≡ true = subst (λ ps. all_through_first ps (map (change_from i) (f ∷ (f' ∷ fs))) ≡ true) (last_left f.pointer i k d h at) g in
    let first : goes_through k (drop i f.pointer) ≡ true = (and_parts (goes_through k (drop i f.pointer)) (all_through k (map (change_from i) (f' ∷ fs))) through).0 in
    let none : goes_through k (k ∷ []) ≡ true = subst (λ ps. goes_through k ps ≡ true) (last_left f.pointer i k d h at) first in
    cc

group_through : (gs : List Edit) (i : ℕ) (e : Edit) (k d : List ℕ) → is_group (map (change_from i) gs) ≡ true → i + 1 < length (get_or gs 0 e).pointer → k ≡ get_or (get_or gs 0 e).pointer i d → all_through k (map (change_from i) gs) ≡ true
group_through [] i e k d g h at = cc
group_through (f ∷ []) i e k d g h at =
    let left = more_left f.pointer i k d h at in
    and_from _ _ (subst (λ ps. goes_through k ps ≡ true) (sym left.2) (same_key k)) refl
group_through (f ∷ (f' ∷ fs)) i e k d g h at =
    let left = more_left f.pointer i k d h at in
    subst (λ ps. all_through_first ps (map (change_from i) (f ∷ (f' ∷ fs))) ≡ true) left.2 g

pub group_nowhere : (gs : List Edit) (i : ℕ) (e : Edit) (k d : List ℕ) (ms : List Pair) → is_group (map (change_from i) gs) ≡ true → i + 1 < length (get_or gs 0 e).pointer → k ≡ get_or (get_or gs 0 e).pointer i d → lookup k ms ≡ None
    → without k ms ≡ placed_each (map (change_from i) gs) ms
group_nowhere gs i e k d ms g h at n = without-absent k ms n ∙ sym (all_absent k (map (change_from i) gs) ms (group_through gs i e k d g h at) n)

pub group_within : (gs : List Edit) (i : ℕ) (e : Edit) (k d : List ℕ) (c : Data) (ms : List Pair) → is_group (map (change_from i) gs) ≡ true → i + 1 < length (get_or gs 0 e).pointer → k ≡ get_or (get_or gs 0 e).pointer i d → lookup k ms ≡ Some c → keys_rise ms ≡ true
    → with_pair k (on_members (placed_each (map (change_from (i + 1)) gs)) c) (without k ms) ≡ placed_each (map (change_from i) gs) ms
group_within [] i e k d c ms g h at found r = cc
group_within (f ∷ fs) i e k d c ms g h at found r =
    with_pair-without k (on_members (placed_each (map (change_from (i + 1)) (f ∷ fs))) c) ms r
    ∙ ap (λ es. with_pair k (on_members (placed_each es) c) ms) (sym (behind_all (f ∷ fs) i))
    ∙ sym (all_found k (change_from i f) (map (change_from i) fs) c ms (group_through (f ∷ fs) i e k d g h at) found)

-- ---- how far edits go through one member

pub through_short : (ps : List (List ℕ)) (i : ℕ) (k : List ℕ) → length ps ≤ i + 1 → goes_through k (drop i ps) ≡ false
through_short [] zero k h = refl
through_short [] (suc i) k h = refl
through_short (p ∷ []) zero k h = refl
through_short (p ∷ (q ∷ ps)) zero k h = absurd (omega arith)
through_short (p ∷ ps) (suc i) k h = through_short ps i k (omega arith)

pub through_long : (ps : List (List ℕ)) (i : ℕ) (k d : List ℕ) → i + 1 < length ps → goes_through k (drop i ps) ≡ bytes_eq (get_or ps i d) k
through_long [] i k d h = absurd (omega arith)
through_long (p ∷ []) i k d h = absurd (omega arith)
through_long (p ∷ (q ∷ ps)) zero k d h = refl
through_long (p ∷ (q ∷ ps)) (suc i) k d h = through_long (q ∷ ps) i k d (omega arith)

pub through_more : (es : List Edit) (n i : ℕ) (k : List ℕ) (e : Edit) → n < length es → all_through k (map (change_from i) (take n es)) ≡ true → goes_through k (drop i (get_or es n e).pointer) ≡ true → all_through k (map (change_from i) (take (n + 1) es)) ≡ true
through_more [] n i k e h a t = absurd (omega arith)
through_more (f ∷ fs) zero i k e h a t = and_from _ _ t refl
through_more (f ∷ fs) (suc n) i k e h a t =
    let through = and_parts (goes_through k (drop i f.pointer)) (all_through k (map (change_from i) (take n fs))) a in
    rw (add-one (suc n)) (and_from _ _ through.0 (rw (add-one n) at (through_more fs n i k e (omega arith) through.1 t)))

-- ---- by which recursions over groups end

pub longest_take : (es : List Edit) (n : ℕ) → longest (take n es) ≤ longest es
longest_take [] zero = omega arith
longest_take [] (suc n) = omega arith
longest_take (e ∷ es) zero = omega arith
longest_take (e ∷ es) (suc n) = omega (arith, longest_take es n)

pub longest_drop : (es : List Edit) (n : ℕ) → longest (drop n es) ≤ longest es
longest_drop [] zero = omega arith
longest_drop [] (suc n) = omega arith
longest_drop (e ∷ es) zero = omega arith
longest_drop (e ∷ es) (suc n) = omega (arith, longest_drop es n)

pub longest_first : (es : List Edit) (e : Edit) → 0 < length es → length (get_or es 0 e).pointer ≤ longest es
longest_first [] e h = absurd (omega arith)
longest_first (f ∷ fs) e h = omega arith

-- ---- groups one after the other

pub groups_on : (es : List Edit) (i d n : ℕ) (ms : List Pair) → placed_each (map (change_from i) (drop (d + n) es)) (placed_each (map (change_from i) (take n (drop d es))) ms) ≡ placed_each (map (change_from i) (drop d es)) ms
groups_on es i d n ms =
    let whole : map (change_from i) (take n (drop d es)) ++ map (change_from i) (drop n (drop d es)) ≡ map (change_from i) (drop d es) = sym (map-append (change_from i) (take n (drop d es)) (drop n (drop d es))) ∙ ap (map (change_from i)) (take-append-drop n (drop d es)) in
    rw (← drop-drop n d es) (placed_on (map (change_from i) (take n (drop d es))) (map (change_from i) (drop n (drop d es))) ms ∙ ap (λ cs. placed_each cs ms) whole)
