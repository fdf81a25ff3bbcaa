-- A patch does to the members below which its keys lie what it does to all, and leaves the others alone.
use Rattle.std.proofs.Common.{◌≡◌, ℕ, List, [], ◌∷◌, Bool, true, false, Option, Some, None, length, take, not, suc, ◌-◌, ◌||◌, option_and_then, if◌then◌else◌, arith, refl, sym, ap, ap₂, ◌∙◌}
use Rattle.std.proofs.lemmas.Slice.Eq.{bytes_eq-Decides}
use Rattle.std.specs.Cmp.Lexicographic.{slice_cmp}
use Rattle.std.specs.List.{list_any}
use Rattle.std.specs.Option.{option_map_or}
use Rattle.std.specs.Ordering.{nat_cmp, is_lt}
use Rattle.std.specs.Str.{bytes_eq}
use Rattle.std.proofs.lemmas.Bool.{not-true}
use Rattle.spec_json.proofs.EditLemmas.{below_else, rises_with, rises_without, with_below}
use Rattle.spec_json.proofs.KeyOrder.{above_later, both}
use Rattle.spec_json.specs.Data.{Data, Pair, null, truth, whole, text, list, object, field, lookup, pairs_back}
use Rattle.spec_json.specs.Edit.{with_pair, without}
use Rattle.spec_json.specs.ObjectKeys.{is_above, keys_rise}
use Rattle.spec_json.specs.Patch.{fails, first_failing, has_parent, is_object, is_prefix, noted, on_found, on_members, placed, placed_all, placed_in, put_or_removed}
use Rattle.spec_json.specs.Pointer.{parts, value_at}
use Rattle.property_table.proofs.TableLemmas.{lookup_filter, value_kept}
use Rattle.overrides.specs.Parts.{all_begin_in, begins_in, begins_out, kept, none_begins_in, object_of}

above_at : (f : List ℕ → Bool) (k : List ℕ) (p : Pair) (ps : List Pair) (b : Bool) → f p.0 ≡ b → is_above k (p ∷ ps) ≡ true → is_above k (kept f ps) ≡ true → is_above k (kept f (p ∷ ps)) ≡ true
above_at f k p ps true e h g = rw e h
above_at f k p ps false e h g = rw e g

pub above_filter : (f : List ℕ → Bool) (k : List ℕ) (ps : List Pair) → is_above k ps ≡ true → keys_rise ps ≡ true → is_above k (kept f ps) ≡ true
above_filter f k [] h r = refl
above_filter f k (p ∷ ps) h r =
    let rise = both (is_above p.0 ps) (keys_rise ps) r in
    above_at f k p ps (f p.0) refl h (above_filter f k ps (above_later k p ps h rise.0) rise.1)

same_key : (f : List ℕ → Bool) (j k : List ℕ) {b : Bool} → bytes_eq j k ≡ true → f k ≡ b → f j ≡ b
same_key f j k e t = ap f ((bytes_eq-Decides j k).0 e) ∙ t

without_at : (f : List ℕ → Bool) (k : List ℕ) → f k ≡ true → (p : Pair) (ps : List Pair) → kept f (without k ps) ≡ without k (kept f ps) → (same keeps : Bool) → bytes_eq p.0 k ≡ same → f p.0 ≡ keeps
    → kept f (if same then ps else p ∷ without k ps) ≡ without k (if keeps then p ∷ kept f ps else kept f ps)
without_at f k t p ps h true true e g = rw e refl
without_at f k t p ps h true false e g = absurd (let s = same_key f p.0 k e t in cc)
without_at f k t p ps h false true e g = rw (g, e) (ap (λ qs. p ∷ qs) h)
without_at f k t p ps h false false e g = rw g h

without_kept : (f : List ℕ → Bool) (k : List ℕ) → f k ≡ true → (ps : List Pair) → kept f (without k ps) ≡ without k (kept f ps)
without_kept f k t [] = refl
without_kept f k t (p ∷ ps) = without_at f k t p ps (without_kept f k t ps) (bytes_eq p.0 k) (f p.0) refl refl

with_at : (f : List ℕ → Bool) (k : List ℕ) (v : Data) → f k ≡ true → (p : Pair) (ps : List Pair) → keys_rise (p ∷ ps) ≡ true → kept f (with_pair k v ps) ≡ with_pair k v (kept f ps)
    → (below same keeps : Bool) → is_lt (slice_cmp nat_cmp p.0 k) ≡ below → bytes_eq p.0 k ≡ same → f p.0 ≡ keeps
    → kept f (if below then p ∷ with_pair k v ps else if same then (k, v) ∷ ps else (k, v) ∷ p ∷ ps) ≡ with_pair k v (if keeps then p ∷ kept f ps else kept f ps)
with_at f k v t p ps r h true same true b e g = rw (g, b) (ap (λ qs. p ∷ qs) h)
with_at f k v t p ps r h true same false b e g = rw g h
with_at f k v t p ps r h false true true b e g = rw (t, b, e) refl
with_at f k v t p ps r h false true false b e g = absurd (let s = same_key f p.0 k e t in cc)
with_at f k v t p ps r h false false true b e g = rw (t, g, b, e) refl
with_at f k v t p ps r h false false false b e g =
    let rise = both (is_above p.0 ps) (keys_rise ps) r in
    let above : is_above k ps ≡ true = above_later k p ps (below_else p.0 k b e) rise.0 in
    rw (t, g) (sym (with_below k v (kept f ps) (above_filter f k ps above rise.1)))

pub with_kept : (f : List ℕ → Bool) (k : List ℕ) (v : Data) → f k ≡ true → (ps : List Pair) → keys_rise ps ≡ true → kept f (with_pair k v ps) ≡ with_pair k v (kept f ps)
with_kept f k v t [] r = rw t refl
with_kept f k v t (p ∷ ps) r = with_at f k v t p ps r (with_kept f k v t ps (both (is_above p.0 ps) (keys_rise ps) r).1) (is_lt (slice_cmp nat_cmp p.0 k)) (bytes_eq p.0 k) (f p.0) refl refl refl

put_kept : (f : List ℕ → Bool) (k : List ℕ) (v : Data) → f k ≡ true → (ps : List Pair) → keys_rise ps ≡ true → kept f (put_or_removed k v ps) ≡ put_or_removed k v (kept f ps)
put_kept f k null t ps r = without_kept f k t ps
put_kept f k (truth b) t ps r = with_kept f k (truth b) t ps r
put_kept f k (whole z) t ps r = with_kept f k (whole z) t ps r
put_kept f k (text s) t ps r = with_kept f k (text s) t ps r
put_kept f k (list ds) t ps r = with_kept f k (list ds) t ps r
put_kept f k (object ms) t ps r = with_kept f k (object ms) t ps r

passing : (f : List ℕ → Bool) (k : List ℕ) (found : Option Data) → f k ≡ true → value_kept (λ p. f p.0) k found ≡ found
passing f k None t = refl
passing f k (Some d) t = rw t refl

pub lookup_kept : (f : List ℕ → Bool) (k : List ℕ) → f k ≡ true → (ps : List Pair) → keys_rise ps ≡ true → lookup k (kept f ps) ≡ lookup k ps
lookup_kept f k t ps r = lookup_filter (λ p. f p.0) k ps r ∙ passing f k (lookup k ps) t

dropped : (f : List ℕ → Bool) (k : List ℕ) (found : Option Data) → f k ≡ false → value_kept (λ p. f p.0) k found ≡ None
dropped f k None e = refl
dropped f k (Some d) e = rw e refl

pub not_kept : (f : List ℕ → Bool) (k : List ℕ) (ps : List Pair) → keys_rise ps ≡ true → f k ≡ false → lookup k (kept f ps) ≡ None
not_kept f k ps r e = lookup_filter (λ p. f p.0) k ps r ∙ dropped f k (lookup k ps) e

found_kept : (f : List ℕ → Bool) (k : List ℕ) (g : Data → Data) → f k ≡ true → (ps : List Pair) → keys_rise ps ≡ true → (found : Option Data)
    → kept f (on_found (λ d. with_pair k (g d) ps) found ps) ≡ on_found (λ d. with_pair k (g d) (kept f ps)) found (kept f ps)
found_kept f k g t ps r None = refl
found_kept f k g t ps r (Some d) = with_kept f k (g d) t ps r

enough : (f : List ℕ → Bool) (parts : List (List ℕ)) (v : Data) (ps : List Pair) → keys_rise ps ≡ true → begins_in f parts ≡ true → kept f (placed_in parts v ps) ≡ placed_in parts v (kept f ps)
enough f [] v ps r t = refl
enough f (p ∷ []) v ps r t = put_kept f p v t ps r
enough f (p ∷ (q ∷ rest)) v ps r t =
    found_kept f p (on_members (λ ns. placed_in (q ∷ rest) v ns)) t ps r (lookup p ps)
    ∙ ap (λ found. on_found (λ d. with_pair p (on_members (λ ns. placed_in (q ∷ rest) v ns) d) (kept f ps)) found (kept f ps)) (sym (lookup_kept f p t ps r))

rises_put : (k : List ℕ) (v : Data) (ps : List Pair) → keys_rise ps ≡ true → keys_rise (put_or_removed k v ps) ≡ true
rises_put k null ps r = rises_without k ps r
rises_put k (truth b) ps r = rises_with k (truth b) ps r
rises_put k (whole z) ps r = rises_with k (whole z) ps r
rises_put k (text s) ps r = rises_with k (text s) ps r
rises_put k (list ds) ps r = rises_with k (list ds) ps r
rises_put k (object ms) ps r = rises_with k (object ms) ps r

rises_found : (k : List ℕ) (g : Data → Data) (ps : List Pair) (found : Option Data) → keys_rise ps ≡ true → keys_rise (on_found (λ d. with_pair k (g d) ps) found ps) ≡ true
rises_found k g ps None r = r
rises_found k g ps (Some d) r = rises_with k (g d) ps r

rises_placed : (qs : List (List ℕ)) (v : Data) (ps : List Pair) → keys_rise ps ≡ true → keys_rise (placed_in qs v ps) ≡ true
rises_placed [] v ps r = r
rises_placed (p ∷ []) v ps r = rises_put p v ps r
rises_placed (p ∷ (q ∷ rest)) v ps r = rises_found p (on_members (λ ns. placed_in (q ∷ rest) v ns)) ps (lookup p ps) r

pub step : Option (List (List ℕ)) → Data → List Pair → List Pair
step None v ms = ms
step (Some qs) v ms = placed_in qs v ms

pub placed_members : List Pair → List Pair → List Pair
placed_members ms [] = ms
placed_members ms (p ∷ patch) = placed_members (step (parts p.0) p.1 ms) patch

step_is : (found : Option (List (List ℕ))) (v : Data) (ms : List Pair) → placed found v (object_of ms) ≡ object_of (step found v ms)
unfolding step
step_is None v ms = refl
step_is (Some qs) v ms = ap (λ ns. object_of (placed_in qs v ns)) (pairs_back ms)

pub all_is : (ms patch : List Pair) → placed_all (object_of ms) patch ≡ object_of (placed_members ms patch)
unfolding placed_members
all_is ms [] = refl
all_is ms (p ∷ patch) = ap (λ d. placed_all d patch) (step_is (parts p.0) p.1 ms) ∙ all_is (step (parts p.0) p.1 ms) patch

step_kept : (f : List ℕ → Bool) (found : Option (List (List ℕ))) (v : Data) (ms : List Pair) → keys_rise ms ≡ true → option_map_or (begins_in f) found true ≡ true → kept f (step found v ms) ≡ step found v (kept f ms)
unfolding step
step_kept f None v ms r t = refl
step_kept f (Some qs) v ms r t = enough f qs v ms r t

pub step_rises : (found : Option (List (List ℕ))) (v : Data) (ms : List Pair) → keys_rise ms ≡ true → keys_rise (step found v ms) ≡ true
unfolding step
step_rises None v ms r = r
step_rises (Some qs) v ms r = rises_placed qs v ms r

pub all_kept : (f : List ℕ → Bool) (patch ms : List Pair) → keys_rise ms ≡ true → all_begin_in f patch ≡ true → kept f (placed_members ms patch) ≡ placed_members (kept f ms) patch
unfolding placed_members
all_kept f [] ms r t = refl
all_kept f (p ∷ patch) ms r t =
    let ts = both (option_map_or (begins_in f) (parts p.0) true) (all_begin_in f patch) t in
    all_kept f patch (step (parts p.0) p.1 ms) (step_rises (parts p.0) p.1 ms r) ts.1
    ∙ ap (λ ns. placed_members ns patch) (step_kept f (parts p.0) p.1 ms r ts.0)

pub field_kept : (f : List ℕ → Bool) (k : List ℕ) → f k ≡ true → (ms : List Pair) → keys_rise ms ≡ true → field k (object_of ms) ≡ field k (object_of (kept f ms))
field_kept f k t ms r = ap (lookup k) (pairs_back ms) ∙ sym (lookup_kept f k t ms r) ∙ ap (lookup k) (sym (pairs_back (kept f ms)))

parent_at : (f : List ℕ → Bool) (qs : List (List ℕ)) (ms : List Pair) → keys_rise ms ≡ true → begins_in f qs ≡ true → has_parent qs (object_of ms) ≡ has_parent qs (object_of (kept f ms))
parent_at f [] ms r t = refl
parent_at f (p ∷ []) ms r t = refl
parent_at f (p ∷ (q ∷ rest)) ms r t =
    let n : length (p ∷ (q ∷ rest)) - 1 ≡ suc (length rest) = omega arith in
    rw n (ap (λ found. option_map_or is_object (option_and_then (λ e. value_at (take (length rest) (q ∷ rest)) e) found) false) (field_kept f p t ms r))

fails_at : (f : List ℕ → Bool) (earlier : List (List (List ℕ))) (found : Option (List (List ℕ))) (ms : List Pair) → keys_rise ms ≡ true → option_map_or (begins_in f) found true ≡ true → fails (object_of ms) earlier found ≡ fails (object_of (kept f ms)) earlier found
fails_at f earlier None ms r t = refl
fails_at f earlier (Some qs) ms r t = ap (λ b. list_any (λ e. is_prefix e qs) earlier || not b) (parent_at f qs ms r t)

pub same_failing : (f : List ℕ → Bool) (earlier : List (List (List ℕ))) (patch ms : List Pair) → keys_rise ms ≡ true → all_begin_in f patch ≡ true → first_failing (object_of ms) earlier patch ≡ first_failing (object_of (kept f ms)) earlier patch
same_failing f earlier [] ms r t = refl
same_failing f earlier (p ∷ patch) ms r t =
    let ts = both (option_map_or (begins_in f) (parts p.0) true) (all_begin_in f patch) t in
    ap₂ (λ b later. if b then Some p.0 else later) (fails_at f earlier (parts p.0) ms r ts.0) (same_failing f (noted earlier (parts p.0)) patch ms r ts.1)

without_out_at : (f : List ℕ → Bool) (k : List ℕ) → f k ≡ false → (p : Pair) (ps : List Pair) → kept f (without k ps) ≡ kept f ps → (same keeps : Bool) → bytes_eq p.0 k ≡ same → f p.0 ≡ keeps
    → kept f (if same then ps else p ∷ without k ps) ≡ (if keeps then p ∷ kept f ps else kept f ps)
without_out_at f k t p ps h true true e g = absurd (let s = same_key f p.0 k e t in cc)
without_out_at f k t p ps h true false e g = refl
without_out_at f k t p ps h false true e g = rw g (ap (λ qs. p ∷ qs) h)
without_out_at f k t p ps h false false e g = rw g h

without_out : (f : List ℕ → Bool) (k : List ℕ) → f k ≡ false → (ps : List Pair) → kept f (without k ps) ≡ kept f ps
without_out f k t [] = refl
without_out f k t (p ∷ ps) = without_out_at f k t p ps (without_out f k t ps) (bytes_eq p.0 k) (f p.0) refl refl

with_out_at : (f : List ℕ → Bool) (k : List ℕ) (v : Data) → f k ≡ false → (p : Pair) (ps : List Pair) → kept f (with_pair k v ps) ≡ kept f ps → (below same keeps : Bool) → bytes_eq p.0 k ≡ same → f p.0 ≡ keeps
    → kept f (if below then p ∷ with_pair k v ps else if same then (k, v) ∷ ps else (k, v) ∷ p ∷ ps) ≡ (if keeps then p ∷ kept f ps else kept f ps)
with_out_at f k v t p ps h true same true e g = rw g (ap (λ qs. p ∷ qs) h)
with_out_at f k v t p ps h true same false e g = rw g h
with_out_at f k v t p ps h false true true e g = absurd (let s = same_key f p.0 k e t in cc)
with_out_at f k v t p ps h false true false e g = rw t refl
with_out_at f k v t p ps h false false true e g = rw (t, g) refl
with_out_at f k v t p ps h false false false e g = rw (t, g) refl

pub with_out : (f : List ℕ → Bool) (k : List ℕ) (v : Data) → f k ≡ false → (ps : List Pair) → kept f (with_pair k v ps) ≡ kept f ps
with_out f k v t [] = rw t refl
with_out f k v t (p ∷ ps) = with_out_at f k v t p ps (with_out f k v t ps) (is_lt (slice_cmp nat_cmp p.0 k)) (bytes_eq p.0 k) (f p.0) refl refl

put_out : (f : List ℕ → Bool) (k : List ℕ) (v : Data) → f k ≡ false → (ps : List Pair) → kept f (put_or_removed k v ps) ≡ kept f ps
put_out f k null t ps = without_out f k t ps
put_out f k (truth b) t ps = with_out f k (truth b) t ps
put_out f k (whole z) t ps = with_out f k (whole z) t ps
put_out f k (text s) t ps = with_out f k (text s) t ps
put_out f k (list ds) t ps = with_out f k (list ds) t ps
put_out f k (object ms) t ps = with_out f k (object ms) t ps

found_out : (f : List ℕ → Bool) (k : List ℕ) (g : Data → Data) → f k ≡ false → (ps : List Pair) (found : Option Data) → kept f (on_found (λ d. with_pair k (g d) ps) found ps) ≡ kept f ps
found_out f k g t ps None = refl
found_out f k g t ps (Some d) = with_out f k (g d) t ps

placed_out : (f : List ℕ → Bool) (qs : List (List ℕ)) (v : Data) (ps : List Pair) → begins_out f qs ≡ true → kept f (placed_in qs v ps) ≡ kept f ps
placed_out f [] v ps t = refl
placed_out f (p ∷ []) v ps t = put_out f p v (not-true (f p) t) ps
placed_out f (p ∷ (q ∷ rest)) v ps t = found_out f p (on_members (λ ns. placed_in (q ∷ rest) v ns)) (not-true (f p) t) ps (lookup p ps)

step_out : (f : List ℕ → Bool) (found : Option (List (List ℕ))) (v : Data) (ms : List Pair) → option_map_or (begins_out f) found true ≡ true → kept f (step found v ms) ≡ kept f ms
unfolding step
step_out f None v ms t = refl
step_out f (Some qs) v ms t = placed_out f qs v ms t

pub all_out : (f : List ℕ → Bool) (patch ms : List Pair) → none_begins_in f patch ≡ true → kept f (placed_members ms patch) ≡ kept f ms
unfolding placed_members
all_out f [] ms t = refl
all_out f (p ∷ patch) ms t =
    let ts = both (option_map_or (begins_out f) (parts p.0) true) (none_begins_in f patch) t in
    all_out f patch (step (parts p.0) p.1 ms) ts.1 ∙ step_out f (parts p.0) p.1 ms ts.0

pub all_rises : (patch ms : List Pair) → keys_rise ms ≡ true → keys_rise (placed_members ms patch) ≡ true
unfolding placed_members
all_rises [] ms r = r
all_rises (p ∷ patch) ms r = all_rises patch (step (parts p.0) p.1 ms) (step_rises (parts p.0) p.1 ms r)
