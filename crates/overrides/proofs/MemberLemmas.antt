-- Members that are looked up by name and put into an object, one by one, are those that are kept.
use Rattle.std.proofs.Common.{◌≡◌, ℕ, List, [], ◌∷◌, ◌||◌, Bool, true, false, Option, Some, None, if◌then◌else◌, refl, sym, ap, ◌∙◌}
use Rattle.std.proofs.lemmas.Slice.Eq.{bytes_eq-Decides}
use Rattle.std.specs.Cmp.Lexicographic.{slice_cmp}
use Rattle.std.specs.Ordering.{nat_cmp, is_lt}
use Rattle.std.specs.Str.{bytes_eq}
use mathlib.Core.Bool.{or_assoc}
use Rattle.spec_json.proofs.Booleans.{or_nothing}
use Rattle.spec_json.proofs.EditLemmas.{below_else, lookup_below, with_below}
use Rattle.spec_json.proofs.KeyOrder.{above_later, both}
use Rattle.spec_json.specs.Data.{Data, Pair, lookup}
use Rattle.spec_json.specs.Edit.{with_pair}
use Rattle.spec_json.specs.ObjectKeys.{is_above, keys_rise}
use Rattle.property_table.specs.Names.{has_name}
use Rattle.overrides.proofs.PatchLemmas.{above_filter, lookup_kept, not_kept}
use Rattle.overrides.specs.Parts.{always_needed, is_needed, kept, put_missing, with_member, with_each_member}

-- Members are kept by what a test says of their names.
same_at : (f g : List ℕ → Bool) (p : Pair) (ps : List Pair) → f p.0 ≡ g p.0 → kept f ps ≡ kept g ps → kept f (p ∷ ps) ≡ kept g (p ∷ ps)
same_at f g p ps e h = ap (λ b. if b then p ∷ kept f ps else kept f ps) e ∙ ap (λ qs. if g p.0 then p ∷ qs else qs) h

same_kept : (f g : List ℕ → Bool) → ((k : List ℕ) → f k ≡ g k) → (ps : List Pair) → kept f ps ≡ kept g ps
same_kept f g e [] = refl
same_kept f g e (p ∷ ps) = same_at f g p ps (e p.0) (same_kept f g e ps)

none_kept : (ps : List Pair) → kept (λ k. false) ps ≡ []
none_kept [] = refl
none_kept (p ∷ ps) = none_kept ps

-- the name or one that passes
abbrev or_name : (List ℕ → Bool) → List ℕ → List ℕ → Bool
or_name f n k = f k || bytes_eq n k

unlike_back : (n k : List ℕ) → bytes_eq k n ≡ false → (b : Bool) → bytes_eq n k ≡ b → b ≡ false
unlike_back n k e true h = absurd (let is : k ≡ n = sym ((bytes_eq-Decides n k).0 h) in let same : bytes_eq k n ≡ true = (bytes_eq-Decides k n).1 is in cc)
unlike_back n k e false h = refl

same_other : (f : List ℕ → Bool) (n k : List ℕ) → bytes_eq k n ≡ false → f k ≡ or_name f n k
same_other f n k e = or_nothing (f k) (bytes_eq n k) (unlike_back n k e (bytes_eq n k) refl)

passes_name : (f : List ℕ → Bool) (n k : List ℕ) → bytes_eq n k ≡ true → (a : Bool) → f k ≡ a → (a || bytes_eq n k) ≡ true
passes_name f n k e true h = refl
passes_name f n k e false h = e

-- where no member has the name, it adds none
absent_at : (f : List ℕ → Bool) (n : List ℕ) (p : Pair) (ps : List Pair) → (lookup n ps ≡ None → kept f ps ≡ kept (or_name f n) ps) → (same : Bool) → bytes_eq p.0 n ≡ same
    → (if same then Some p.1 else lookup n ps) ≡ None → kept f (p ∷ ps) ≡ kept (or_name f n) (p ∷ ps)
absent_at f n p ps h true e none = absurd (cc)
absent_at f n p ps h false e none = same_at f (or_name f n) p ps (same_other f n p.0 e) (h none)

absent : (f : List ℕ → Bool) (n : List ℕ) (ps : List Pair) → lookup n ps ≡ None → kept f ps ≡ kept (or_name f n) ps
absent f n [] e = refl
absent f n (p ∷ ps) e = absent_at f n p ps (absent f n ps) (bytes_eq p.0 n) refl e

-- nor where the name passes by itself
passes_at : (f : List ℕ → Bool) (n : List ℕ) → f n ≡ true → (k : List ℕ) (same : Bool) → bytes_eq k n ≡ same → f k ≡ or_name f n k
passes_at f n t k true e = let passes : f k ≡ true = ap f ((bytes_eq-Decides k n).0 e) ∙ t in rw passes refl
passes_at f n t k false e = same_other f n k e

-- where a member has it, that is put in
found_at : (f : List ℕ → Bool) (n : List ℕ) (d : Data) → f n ≡ false → (p : Pair) (ps : List Pair) → keys_rise (p ∷ ps) ≡ true
    → (lookup n ps ≡ Some d → with_pair n d (kept f ps) ≡ kept (or_name f n) ps) → (below same keeps : Bool) → is_lt (slice_cmp nat_cmp p.0 n) ≡ below → bytes_eq p.0 n ≡ same → f p.0 ≡ keeps
    → (if same then Some p.1 else lookup n ps) ≡ Some d → with_pair n d (kept f (p ∷ ps)) ≡ kept (or_name f n) (p ∷ ps)
found_at f n d t p ps r h below true true b e g found = absurd (let is : f p.0 ≡ false = ap f ((bytes_eq-Decides p.0 n).0 e) ∙ t in cc)
found_at f n d t p ps r h below true false b e g found =
    let rise = both (is_above p.0 ps) (keys_rise ps) r in
    let is : p.0 ≡ n = (bytes_eq-Decides p.0 n).0 e in
    let above : is_above n ps ≡ true = sym (ap (λ i. is_above i ps) is) ∙ rise.0 in
    let value : p.1 ≡ d = cc in
    let named : bytes_eq n p.0 ≡ true = (bytes_eq-Decides n p.0).1 (sym is) in
    rw (g, named) (with_below n d (kept f ps) (above_filter f n ps above rise.1) ∙ ap (λ k. (k, d) ∷ kept f ps) (sym is) ∙ ap (λ v. (p.0, v) ∷ kept f ps) (sym value) ∙ ap (λ qs. p ∷ qs) (absent f n ps (lookup_below n ps above rise.1)))
found_at f n d t p ps r h true false true b e g found =
    rw (g, b) (ap (λ qs. p ∷ qs) (h found))
found_at f n d t p ps r h false false true b e g found =
    let rise = both (is_above p.0 ps) (keys_rise ps) r in
    let above : is_above n ps ≡ true = above_later n p ps (below_else p.0 n b e) rise.0 in
    absurd (let none : lookup n ps ≡ None = lookup_below n ps above rise.1 in cc)
found_at f n d t p ps r h below false false b e g found =
    let other : bytes_eq n p.0 ≡ false = unlike_back n p.0 e (bytes_eq n p.0) refl in
    rw (g, other) (h found)

found_one : (f : List ℕ → Bool) (n : List ℕ) (d : Data) → f n ≡ false → (ps : List Pair) → keys_rise ps ≡ true → lookup n ps ≡ Some d → with_pair n d (kept f ps) ≡ kept (or_name f n) ps
found_one f n d t [] r found = absurd (cc)
found_one f n d t (p ∷ ps) r found =
    found_at f n d t p ps r (found_one f n d t ps (both (is_above p.0 ps) (keys_rise ps) r).1) (is_lt (slice_cmp nat_cmp p.0 n)) (bytes_eq p.0 n) (f p.0) refl refl refl found

stays : (n : List ℕ) (found : Option Data) (part : List Pair) → put_missing n found found part ≡ part
stays n None part = refl
stays n (Some d) part = refl

put_one : (f : List ℕ → Bool) (n : List ℕ) → f n ≡ false → (ps : List Pair) → keys_rise ps ≡ true → (found : Option Data) → lookup n ps ≡ found → put_missing n None found (kept f ps) ≡ kept (or_name f n) ps
put_one f n t ps r None e = absent f n ps e
put_one f n t ps r (Some d) e = found_one f n d t ps r e

member_at : (f : List ℕ → Bool) (n : List ℕ) (ps : List Pair) → keys_rise ps ≡ true → (passes : Bool) → f n ≡ passes → with_member n ps (kept f ps) ≡ kept (or_name f n) ps
member_at f n ps r true t =
    ap (λ there. put_missing n there (lookup n ps) (kept f ps)) (lookup_kept f n t ps r) ∙ stays n (lookup n ps) (kept f ps)
    ∙ same_kept f (or_name f n) (λ k. passes_at f n t k (bytes_eq k n) refl) ps
member_at f n ps r false t =
    ap (λ there. put_missing n there (lookup n ps) (kept f ps)) (not_kept f n ps r t) ∙ put_one f n t ps r (lookup n ps) refl

-- the name is one of these or passes
abbrev or_names : (List ℕ → Bool) → List (List ℕ) → List ℕ → Bool
or_names f ns k = f k || has_name ns k

members_put : (f : List ℕ → Bool) (ns : List (List ℕ)) (ps : List Pair) → keys_rise ps ≡ true → with_each_member ns ps (kept f ps) ≡ kept (or_names f ns) ps
members_put f [] ps r = same_kept f (or_names f []) (λ k. or_nothing (f k) false refl) ps
members_put f (n ∷ ns) ps r =
    ap (with_each_member ns ps) (member_at f n ps r (f n) refl) ∙ members_put (or_name f n) ns ps r
    ∙ same_kept (or_names (or_name f n) ns) (or_names f (n ∷ ns)) (λ k. or_assoc (f k) (bytes_eq n k) (has_name ns k)) ps

-- all that is needed is kept
all_needed_put : (firsts : List (List ℕ)) (ps : List Pair) → keys_rise ps ≡ true → with_each_member firsts ps (with_each_member always_needed ps []) ≡ kept (is_needed firsts) ps
all_needed_put firsts ps r =
    ap (λ part. with_each_member firsts ps (with_each_member always_needed ps part)) (sym (none_kept ps))
    ∙ ap (with_each_member firsts ps) (members_put (λ k. false) always_needed ps r)
    ∙ members_put (has_name always_needed) firsts ps r

-- also for a patch that changes nothing
pub always_put : (ps : List Pair) → keys_rise ps ≡ true → with_each_member always_needed ps [] ≡ kept (is_needed []) ps
always_put ps r = all_needed_put [] ps r

-- and where the part begins with what is always needed
pub firsts_put : (firsts : List (List ℕ)) (ps : List Pair) → keys_rise ps ≡ true → with_each_member firsts ps (kept (is_needed []) ps) ≡ kept (is_needed firsts) ps
firsts_put firsts ps r = ap (with_each_member firsts ps) (sym (always_put ps r)) ∙ all_needed_put firsts ps r
