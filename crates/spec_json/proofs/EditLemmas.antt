-- Objects with a member put in or taken out: their keys stay in order, other keys keep their values, and what was taken out may be put in again.
use Rattle.std.proofs.Common.{◌≡◌, ℕ, List, [], ◌∷◌, Bool, true, false, Some, None, if◌then◌else◌, refl, sym, ap, ◌∙◌, Ordering, Less, Equal, Greater}
use Rattle.std.proofs.lemmas.Bool.{and_from, and_parts}
use Rattle.std.proofs.lemmas.Cmp.{nat_list_cmp_total}
use Rattle.std.proofs.lemmas.Map.Text.{is_eq-slice_cmp}
use Rattle.std.proofs.lemmas.Slice.Eq.{bytes_eq-Decides}
use Rattle.std.specs.Cmp.Lexicographic.{slice_cmp}
use Rattle.std.specs.Ordering.{nat_cmp, is_lt, is_eq, ordering_reverse}
use Rattle.std.specs.Str.{bytes_eq}
use Rattle.spec_json.proofs.KeyOrder.{above_later, same_key}
use Rattle.spec_json.specs.Data.{Data, Pair, lookup}
use Rattle.spec_json.specs.Edit.{with_pair, without}
use Rattle.spec_json.specs.ObjectKeys.{is_above, keys_rise}

abbrev key_cmp : List ℕ → List ℕ → Ordering
key_cmp j k = slice_cmp nat_cmp j k

reverse_less : (o : Ordering) → is_lt o ≡ false → is_eq o ≡ false → is_lt (ordering_reverse o) ≡ true
reverse_less Less h e = cc
reverse_less Equal h e = cc
reverse_less Greater h e = refl

reverse_greater : (o : Ordering) → is_lt (ordering_reverse o) ≡ true → (is_lt o ≡ false) × (is_eq o ≡ false)
reverse_greater Less h = cc
reverse_greater Equal h = cc
reverse_greater Greater h = (refl, refl)

equal_not_less : (o : Ordering) → is_eq o ≡ true → is_lt o ≡ false
equal_not_less Less h = cc
equal_not_less Equal h = refl
equal_not_less Greater h = cc

-- of two keys that differ, one is below the other
pub below_else : (j k : List ℕ) → is_lt (key_cmp j k) ≡ false → bytes_eq j k ≡ false → is_lt (key_cmp k j) ≡ true
below_else j k h e = ap is_lt (nat_list_cmp_total.antisymm k j) ∙ reverse_less (key_cmp j k) h (is_eq-slice_cmp j k ∙ e)

-- and that one is neither above nor equal
pub not_above : (k j : List ℕ) → is_lt (key_cmp k j) ≡ true → (is_lt (key_cmp j k) ≡ false) × (is_eq (key_cmp j k) ≡ false)
not_above k j h = reverse_greater (key_cmp j k) (sym (ap is_lt (nat_list_cmp_total.antisymm k j)) ∙ h)

pub not_equal : (k j : List ℕ) → is_lt (key_cmp k j) ≡ true → bytes_eq j k ≡ false
not_equal k j h = sym (is_eq-slice_cmp j k) ∙ (not_above k j h).1

less_not_equal : (o : Ordering) → is_lt o ≡ true → is_eq o ≡ false
less_not_equal Less h = refl
less_not_equal Equal h = cc
less_not_equal Greater h = cc

-- a key below another isn't that one
pub below_unlike : (j k : List ℕ) → is_lt (key_cmp j k) ≡ true → bytes_eq j k ≡ false
below_unlike j k h = sym (is_eq-slice_cmp j k) ∙ less_not_equal (key_cmp j k) h

pub equal_not_below : (j k : List ℕ) → bytes_eq j k ≡ true → is_lt (key_cmp j k) ≡ false
equal_not_below j k e = equal_not_less (key_cmp j k) (is_eq-slice_cmp j k ∙ e)

pub equal_above : (j k : List ℕ) (ps : List Pair) → bytes_eq j k ≡ true → is_above j ps ≡ true → is_above k ps ≡ true
equal_above j k ps e h = ap (λ i. is_above i ps) (sym ((bytes_eq-Decides j k).0 e)) ∙ h

-- what holds in each case holds of a choice among two, or three
of_two : (holds : List Pair → Bool) (same : Bool) (x y : List Pair) → holds x ≡ true → holds y ≡ true → holds (if same then x else y) ≡ true
of_two holds true x y a b = a
of_two holds false x y a b = b

of_three : (holds : List Pair → Bool) (below same : Bool) (x y z : List Pair) → (below ≡ true → holds x ≡ true) → (below ≡ false → same ≡ true → holds y ≡ true) → (below ≡ false → same ≡ false → holds z ≡ true)
    → holds (if below then x else if same then y else z) ≡ true
of_three holds true same x y z a b c = a refl
of_three holds false true x y z a b c = b refl refl
of_three holds false false x y z a b c = c refl refl

above_with : (j k : List ℕ) (v : Data) (ps : List Pair) → is_lt (key_cmp j k) ≡ true → is_above j ps ≡ true → is_above j (with_pair k v ps) ≡ true
above_with j k v [] h a = h
above_with j k v (p ∷ ps) h a = of_three (is_above j) (is_lt (key_cmp p.0 k)) (bytes_eq p.0 k) (p ∷ with_pair k v ps) ((k, v) ∷ ps) ((k, v) ∷ p ∷ ps) (λ _. a) (λ _ _. h) (λ _ _. h)

-- a member that is put in keeps the order
pub rises_with : (k : List ℕ) (v : Data) (ps : List Pair) → keys_rise ps ≡ true → keys_rise (with_pair k v ps) ≡ true
rises_with k v [] h = refl
rises_with k v (p ∷ ps) h =
    let rise = and_parts (is_above p.0 ps) (keys_rise ps) h in
    of_three keys_rise (is_lt (key_cmp p.0 k)) (bytes_eq p.0 k) (p ∷ with_pair k v ps) ((k, v) ∷ ps) ((k, v) ∷ p ∷ ps)
    (λ b. and_from _ _ (above_with p.0 k v ps b rise.0) (rises_with k v ps rise.1))
    (λ _ s. and_from _ _ (equal_above p.0 k ps s rise.0) rise.1)
    (λ b s. and_from _ _ (below_else p.0 k b s) h)

above_without : (j k : List ℕ) (ps : List Pair) → keys_rise ps ≡ true → is_above j ps ≡ true → is_above j (without k ps) ≡ true
above_without j k [] r h = refl
above_without j k (p ∷ ps) r h = of_two (is_above j) (bytes_eq p.0 k) ps (p ∷ without k ps) (above_later j p ps h (and_parts (is_above p.0 ps) (keys_rise ps) r).0) h

-- and so does one that is taken out
pub rises_without : (k : List ℕ) (ps : List Pair) → keys_rise ps ≡ true → keys_rise (without k ps) ≡ true
rises_without k [] h = refl
rises_without k (p ∷ ps) h =
    let rise = and_parts (is_above p.0 ps) (keys_rise ps) h in
    of_two keys_rise (bytes_eq p.0 k) ps (p ∷ without k ps) rise.1 (and_from _ _ (above_without p.0 k ps rise.1 rise.0) (rises_without k ps rise.1))

-- a key below the first of some members is none of theirs, and goes first
pub without_below : (k : List ℕ) (ps : List Pair) → is_above k ps ≡ true → keys_rise ps ≡ true → without k ps ≡ ps
without_below k [] h r = refl
without_below k (p ∷ ps) h r =
    let rise = and_parts (is_above p.0 ps) (keys_rise ps) r in
    rw (not_equal k p.0 h) (ap (λ qs. p ∷ qs) (without_below k ps (above_later k p ps h rise.0) rise.1))

pub lookup_below : (k : List ℕ) (ps : List Pair) → is_above k ps ≡ true → keys_rise ps ≡ true → lookup k ps ≡ None
lookup_below k [] h r = refl
lookup_below k (p ∷ ps) h r =
    let rise = and_parts (is_above p.0 ps) (keys_rise ps) r in
    rw (not_equal k p.0 h) (lookup_below k ps (above_later k p ps h rise.0) rise.1)

pub with_below : (k : List ℕ) (v : Data) (ps : List Pair) → is_above k ps ≡ true → with_pair k v ps ≡ (k, v) ∷ ps
with_below k v [] h = refl
with_below k v (p ∷ ps) h = rw ((not_above k p.0 h).0, not_equal k p.0 h) refl

again_step : (k : List ℕ) (v : Data) (p : Pair) (ps : List Pair) → keys_rise (p ∷ ps) ≡ true → with_pair k v (without k ps) ≡ with_pair k v ps → (below same : Bool) → is_lt (key_cmp p.0 k) ≡ below → bytes_eq p.0 k ≡ same
    → with_pair k v (without k (p ∷ ps)) ≡ with_pair k v (p ∷ ps)
again_step k v p ps r h below true b s =
    let above : is_above k ps ≡ true = equal_above p.0 k ps s (and_parts (is_above p.0 ps) (keys_rise ps) r).0 in
    rw (s, equal_not_below p.0 k s, with_below k v ps above) refl
again_step k v p ps r h true false b s = rw (s, b) (ap (λ qs. p ∷ qs) h)
again_step k v p ps r h false false b s =
    let rise = and_parts (is_above p.0 ps) (keys_rise ps) r in
    let above : is_above k ps ≡ true = above_later k p ps (below_else p.0 k b s) rise.0 in
    rw (s, b, without_below k ps above rise.1, s) refl

-- a member may be taken out before it is put in again
pub with_pair-without : (k : List ℕ) (v : Data) (ps : List Pair) → keys_rise ps ≡ true → with_pair k v (without k ps) ≡ with_pair k v ps
with_pair-without k v [] r = refl
with_pair-without k v (p ∷ ps) r = again_step k v p ps r (with_pair-without k v ps (and_parts (is_above p.0 ps) (keys_rise ps) r).1) (is_lt (key_cmp p.0 k)) (bytes_eq p.0 k) refl refl

other_key : (j k : List ℕ) (p : Pair) (ps : List Pair) → bytes_eq j k ≡ false → lookup k (without j ps) ≡ lookup k ps → (same : Bool) → bytes_eq p.0 j ≡ same → lookup k (without j (p ∷ ps)) ≡ lookup k (p ∷ ps)
other_key j k p ps h e true s =
    let unlike : bytes_eq p.0 k ≡ false = ap (λ i. bytes_eq i k) ((bytes_eq-Decides p.0 j).0 s) ∙ h in rw (s, unlike) refl
other_key j k p ps h e false s = rw (s, e) refl

-- a member taken out leaves the values of other keys
pub lookup_without : (j k : List ℕ) (ps : List Pair) → bytes_eq j k ≡ false → lookup k (without j ps) ≡ lookup k ps
lookup_without j k [] h = refl
lookup_without j k (p ∷ ps) h = other_key j k p ps h (lookup_without j k ps h) (bytes_eq p.0 j) refl

with_step : (k : List ℕ) (v : Data) (p : Pair) (ps : List Pair) → lookup k (with_pair k v ps) ≡ Some v → (below same : Bool) → is_lt (slice_cmp nat_cmp p.0 k) ≡ below → bytes_eq p.0 k ≡ same → lookup k (with_pair k v (p ∷ ps)) ≡ Some v
with_step k v p ps h true same b s = rw (b, below_unlike p.0 k b) h
with_step k v p ps h false true b s = rw (b, s, same_key k) refl
with_step k v p ps h false false b s = rw (b, s, same_key k) refl

-- what is put in is found
pub lookup_with : (k : List ℕ) (v : Data) (ps : List Pair) → lookup k (with_pair k v ps) ≡ Some v
lookup_with k v [] = rw (same_key k) refl
lookup_with k v (p ∷ ps) = with_step k v p ps (lookup_with k v ps) (is_lt (slice_cmp nat_cmp p.0 k)) (bytes_eq p.0 k) refl refl
