-- Keys that rise are looked up in one walk over members whose keys rise.
use Rattle.std.proofs.Common.{◌≡◌, ℕ, List, [], ◌∷◌, ◌==◌, ◌||◌, Bool, true, false, Option, Some, None, is_some, option_and_then, if◌then◌else◌, refl, subst, Less}
use Rattle.std.proofs.lemmas.Bool.{eqb-true, and_parts}
use Rattle.std.proofs.lemmas.Cmp.{nat_list_cmp_total}
use Rattle.std.specs.Cmp.Lexicographic.{slice_cmp}
use Rattle.std.specs.List.{list_any}
use Rattle.std.specs.Ordering.{nat_cmp, is_lt}
use Rattle.std.specs.Str.{bytes_eq}
use Rattle.spec_json.proofs.EditLemmas.{below_else, equal_not_below, lookup_below}
use Rattle.spec_json.proofs.KeyOrder.{above_later, less_of}
use Rattle.spec_json.specs.Data.{Pair, lookup}
use Rattle.spec_json.specs.ObjectKeys.{is_above, keys_rise}
use Rattle.spec_json.specs.Parts.{behind_hash}
use Rattle.spec_batch.specs.References.{has_both_forms}
use Rattle.result_refs.specs.Behind.{behind}
use Rattle.result_refs.specs.Walk.{begins_with, from_key}

abbrev is_below : List ℕ → List ℕ → Bool
is_below j k = is_lt (slice_cmp nat_cmp j k)

below_later : (j k l : List ℕ) → is_below j k ≡ true → is_below k l ≡ true → is_below j l ≡ true
below_later j k l h g = let less : slice_cmp nat_cmp j l ≡ Less = nat_list_cmp_total.trans j k l (less_of _ h) (less_of _ g) in rw less refl

unlike_below : (j k : List ℕ) → is_below j k ≡ true → (same : Bool) → bytes_eq j k ≡ same → same ≡ false
unlike_below j k h true e = let not_below = equal_not_below j k e in cc
unlike_below j k h false e = refl

-- a key that is there stands first from that key on
found_step : (k : List ℕ) (p : Pair) (ps : List Pair) → keys_rise (p ∷ ps) ≡ true → begins_with k (from_key k ps) ≡ is_some (lookup k ps) → (below same : Bool) → is_below p.0 k ≡ below → bytes_eq p.0 k ≡ same
    → begins_with k (from_key k (p ∷ ps)) ≡ is_some (lookup k (p ∷ ps))
found_step k p ps r h true same b s = let unlike : bytes_eq p.0 k ≡ false = unlike_below p.0 k b (bytes_eq p.0 k) refl in rw (b, unlike) h
found_step k p ps r h false true b s = rw (b, s) refl
found_step k p ps r h false false b s =
    let rise = and_parts (is_above p.0 ps) (keys_rise ps) r in
    let none = lookup_below k ps (above_later k p ps (below_else p.0 k b s) rise.0) rise.1 in
    rw (b, s, none) refl

found : (k : List ℕ) (ps : List Pair) → keys_rise ps ≡ true → begins_with k (from_key k ps) ≡ is_some (lookup k ps)
found k [] r = refl
found k (p ∷ ps) r = found_step k p ps r (found k ps (and_parts (is_above p.0 ps) (keys_rise ps) r).1) (is_below p.0 k) (bytes_eq p.0 k) refl refl

rises_in : (b : Bool) (xs ys : List Pair) → keys_rise xs ≡ true → keys_rise ys ≡ true → keys_rise (if b then xs else ys) ≡ true
rises_in true xs ys h g = h
rises_in false xs ys h g = g

from_key_rises : (k : List ℕ) (ps : List Pair) → keys_rise ps ≡ true → keys_rise (from_key k ps) ≡ true
from_key_rises k [] r = r
from_key_rises k (p ∷ ps) r = rises_in (is_below p.0 k) (from_key k ps) (p ∷ ps) (from_key_rises k ps (and_parts (is_above p.0 ps) (keys_rise ps) r).1) r

-- greater keys are looked up from there on
later_step : (k l : List ℕ) (p : Pair) (ps : List Pair) → is_below k l ≡ true → lookup l (from_key k ps) ≡ lookup l ps → (below : Bool) → is_below p.0 k ≡ below → lookup l (from_key k (p ∷ ps)) ≡ lookup l (p ∷ ps)
later_step k l p ps h e true b = let unlike : bytes_eq p.0 l ≡ false = unlike_below p.0 l (below_later p.0 k l b h) (bytes_eq p.0 l) refl in rw (b, unlike) e
later_step k l p ps h e false b = rw b refl

later : (k l : List ℕ) (ps : List Pair) → is_below k l ≡ true → lookup l (from_key k ps) ≡ lookup l ps
later k l [] h = refl
later k l (p ∷ ps) h = later_step k l p ps h (later k l ps h) (is_below p.0 k) refl

-- whether a key behind a `#` is there, where the key with the `#` is above that of k
forms_keep_at : (k : List ℕ) (b : ℕ) (bs : List ℕ) (ps : List Pair) → is_below (35 ∷ k) (b ∷ bs) ≡ true → (hash : Bool) → (b == 35) ≡ hash
    → is_some (option_and_then (λ key. lookup key (from_key k ps)) (behind_hash (b ∷ bs))) ≡ is_some (option_and_then (λ key. lookup key ps) (behind_hash (b ∷ bs)))
forms_keep_at k b bs ps h true e =
    let above : is_below k bs ≡ true = subst (λ c. is_below (35 ∷ k) (c ∷ bs) ≡ true) (eqb-true b 35 e) h in rw (e, later k bs ps above) refl
forms_keep_at k b bs ps h false e = rw e refl

forms_keep : (k : List ℕ) (q : List ℕ) (ps : List Pair) → is_below (35 ∷ k) q ≡ true
    → is_some (option_and_then (λ key. lookup key (from_key k ps)) (behind_hash q)) ≡ is_some (option_and_then (λ key. lookup key ps) (behind_hash q))
forms_keep k [] ps h = refl
forms_keep k (b ∷ bs) ps h = forms_keep_at k b bs ps h (b == 35) refl

forms_keep_all : (k : List ℕ) (rs ps : List Pair) → is_above (35 ∷ k) rs ≡ true → keys_rise rs ≡ true
    → list_any (has_both_forms (from_key k ps)) rs ≡ list_any (has_both_forms ps) rs
forms_keep_all k [] ps a r = refl
forms_keep_all k (q ∷ rs) ps a r =
    let rise = and_parts (is_above q.0 rs) (keys_rise rs) r in
    rw (forms_keep k q.0 ps a, forms_keep_all k rs ps (above_later (35 ∷ k) q rs a rise.0) rise.1) refl

-- the members from the key on that stands behind a sign, if one does
abbrev from_key_behind : Option (List ℕ) → List Pair → List Pair
from_key_behind None ps = ps
from_key_behind (Some k) ps = from_key k ps

abbrev begins_behind : Option (List ℕ) → List Pair → Bool
begins_behind None ps = false
begins_behind (Some k) ps = begins_with k (from_key k ps)

-- one walk over both
abbrev pub walk : List Pair → List Pair → Bool
walk [] ps = false
walk (r ∷ rs) ps = begins_behind (behind 35 r.0) ps || walk rs (from_key_behind (behind 35 r.0) ps)

walk_step : (b : ℕ) (bs : List ℕ) (rs ps : List Pair) → is_above (b ∷ bs) rs ≡ true → keys_rise rs ≡ true → keys_rise ps ≡ true → ((qs : List Pair) → keys_rise qs ≡ true → walk rs qs ≡ list_any (has_both_forms qs) rs)
    → (hash : Bool) → (b == 35) ≡ hash
    → (begins_behind (behind 35 (b ∷ bs)) ps || walk rs (from_key_behind (behind 35 (b ∷ bs)) ps)) ≡ (is_some (option_and_then (λ key. lookup key ps) (behind_hash (b ∷ bs))) || list_any (has_both_forms ps) rs)
walk_step b bs rs ps a r h rest true e =
    let above : is_above (35 ∷ bs) rs ≡ true = subst (λ c. is_above (c ∷ bs) rs ≡ true) (eqb-true b 35 e) a in
    rw (e, found bs ps h, rest (from_key bs ps) (from_key_rises bs ps h), forms_keep_all bs rs ps above r) refl
walk_step b bs rs ps a r h rest false e = rw (e, rest ps h) refl

walk_both : (rs ps : List Pair) → keys_rise rs ≡ true → keys_rise ps ≡ true → walk rs ps ≡ list_any (has_both_forms ps) rs
walk_both [] ps r h = refl
walk_both (([], d) ∷ rs) ps r h = walk_both rs ps (and_parts (is_above [] rs) (keys_rise rs) r).1 h
walk_both ((b ∷ bs, d) ∷ rs) ps r h =
    let rise = and_parts (is_above (b ∷ bs) rs) (keys_rise rs) r in
    walk_step b bs rs ps rise.0 rise.1 h (λ qs g. walk_both rs qs rise.1 g) (b == 35) refl

pub walk_finds : (ps : List Pair) → keys_rise ps ≡ true → walk ps ps ≡ list_any (λ p. has_both_forms ps p) ps
walk_finds ps h = walk_both ps ps h h
