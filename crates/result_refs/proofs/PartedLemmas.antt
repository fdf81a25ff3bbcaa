-- Arguments, taken apart: their keys rise, and they tell what the arguments come to.
use Rattle.std.proofs.Common.{◌≡◌, ◌≤◌, ℕ, List, [], ◌∷◌, ◌==◌, Bool, true, false, Option, Some, None, IfSome, nat_lt, option_map, option_and_then, filter, map, drop, refl, sym, ap, ◌∙◌, subst}
use Rattle.std.proofs.lemmas.Bool.{and_from, eqb-true, and_parts, le-ltb}
use Rattle.std.specs.Cmp.Lexicographic.{slice_cmp}
use Rattle.std.specs.List.{list_any}
use Rattle.std.specs.Ordering.{nat_cmp, is_lt}
use Rattle.spec_json.proofs.KeyOrder.{above_later}
use Rattle.spec_json.specs.Data.{Data, Pair}
use Rattle.spec_json.specs.Edit.{put_all}
use Rattle.spec_json.specs.ObjectKeys.{is_above, keys_rise}
use Rattle.spec_json.specs.Parts.{all_some}
use Rattle.spec_batch.specs.References.{resolved, has_both_forms, has_too_many, size_of_values, is_reference, referred_member, resolution, value_of_reference, with_referred}
use Rattle.spec_batch.specs.declared.limits.TheConstants.{MAX_REFERRED_BYTES}
use Rattle.spec_batch.specs.declared.method_response.MethodResponse.{MethodResponse}
use Rattle.result_refs.specs.Parted.{plain_in, references_in, with_value}
use Rattle.result_refs.specs.Reports.{Reports, ReportsNone}
use Rattle.result_refs.specs.Sizes.{values_in}
use Rattle.result_refs.specs.declared.arguments.ReferenceError.{ReferenceError}
use Rattle.result_refs.specs.declared.arguments.ReferenceError.TheVariants.{TooMany, BothForms, BadReference, TooLarge, NoMemory}

-- members that are left out leave the others in order
above_plain : (k : List ℕ) (p : Pair) (ps : List Pair) → is_above k (p ∷ ps) ≡ true → is_above k (plain_in ps) ≡ true → (reference : Bool) → is_reference p ≡ reference → is_above k (plain_in (p ∷ ps)) ≡ true
above_plain k p ps a h true e = rw e h
above_plain k p ps a h false e = rw e a

above_all_plain : (k : List ℕ) (ps : List Pair) → is_above k ps ≡ true → keys_rise ps ≡ true → is_above k (plain_in ps) ≡ true
above_all_plain k [] a r = refl
above_all_plain k (p ∷ ps) a r =
    let rise = and_parts (is_above p.0 ps) (keys_rise ps) r in
    above_plain k p ps a (above_all_plain k ps (above_later k p ps a rise.0) rise.1) (is_reference p) refl

plain_rises_step : (p : Pair) (ps : List Pair) → is_above p.0 (plain_in ps) ≡ true → keys_rise (plain_in ps) ≡ true → (reference : Bool) → is_reference p ≡ reference → keys_rise (plain_in (p ∷ ps)) ≡ true
plain_rises_step p ps a h true e = rw e h
plain_rises_step p ps a h false e = rw e (and_from _ _ a h)

pub plain_rises : (ps : List Pair) → keys_rise ps ≡ true → keys_rise (plain_in ps) ≡ true
plain_rises [] r = refl
plain_rises (p ∷ ps) r =
    let rise = and_parts (is_above p.0 ps) (keys_rise ps) r in
    plain_rises_step p ps (above_all_plain p.0 ps rise.0 rise.1) (plain_rises ps rise.1) (is_reference p) refl

-- names behind a `#` are in the order of the keys with it
above_named : (k : List ℕ) (b : ℕ) (bs : List ℕ) (d : Data) (ps : List Pair) → is_lt (slice_cmp nat_cmp (35 ∷ k) (b ∷ bs)) ≡ true → is_above k (references_in ps) ≡ true → (hash : Bool) → (b == 35) ≡ hash
    → is_above k (references_in ((b ∷ bs, d) ∷ ps)) ≡ true
above_named k b bs d ps a h true e =
    let below : is_lt (slice_cmp nat_cmp k bs) ≡ true = subst (λ c. is_lt (slice_cmp nat_cmp (35 ∷ k) (c ∷ bs)) ≡ true) (eqb-true b 35 e) a in rw e below
above_named k b bs d ps a h false e = rw e h

above_all_named : (k : List ℕ) (ps : List Pair) → is_above (35 ∷ k) ps ≡ true → keys_rise ps ≡ true → is_above k (references_in ps) ≡ true
above_all_named k [] a r = refl
above_all_named k (([], d) ∷ ps) a r = cc
above_all_named k ((b ∷ bs, d) ∷ ps) a r =
    let rise = and_parts (is_above (b ∷ bs) ps) (keys_rise ps) r in
    above_named k b bs d ps a (above_all_named k ps (above_later (35 ∷ k) (b ∷ bs, d) ps a rise.0) rise.1) (b == 35) refl

names_rise_step : (b : ℕ) (bs : List ℕ) (d : Data) (ps : List Pair) → is_above (b ∷ bs) ps ≡ true → keys_rise ps ≡ true → keys_rise (references_in ps) ≡ true → (hash : Bool) → (b == 35) ≡ hash → keys_rise (references_in ((b ∷ bs, d) ∷ ps)) ≡ true
names_rise_step b bs d ps a r h true e =
    let above : is_above (35 ∷ bs) ps ≡ true = subst (λ c. is_above (c ∷ bs) ps ≡ true) (eqb-true b 35 e) a in
    rw e (and_from _ _ (above_all_named bs ps above r) h)
names_rise_step b bs d ps a r h false e = rw e h

pub names_rise : (ps : List Pair) → keys_rise ps ≡ true → keys_rise (references_in ps) ≡ true
names_rise [] r = refl
names_rise (([], d) ∷ ps) r = names_rise ps (and_parts (is_above [] ps) (keys_rise ps) r).1
names_rise ((b ∷ bs, d) ∷ ps) r =
    let rise = and_parts (is_above (b ∷ bs) ps) (keys_rise ps) r in names_rise_step b bs d ps rise.0 rise.1 (names_rise ps rise.1) (b == 35) refl

-- values stand at the keys of their references
valued : (k : List ℕ) (v : Option Data) (rest : Option (List Pair)) (vs : List Pair) → option_and_then (λ p. option_map (λ ps. p ∷ ps) rest) (option_map (λ d. (k, d)) v) ≡ Some vs
    → (d : Data) × (ws : List Pair) × ((k, d) ∷ ws ≡ vs) × (rest ≡ Some ws)
valued k None rest vs h = cc
valued k (Some d) None vs h = cc
valued k (Some d) (Some ws) vs h = (d, ws, cc, refl)

values_above : (k : List ℕ) (rs : List MethodResponse) (ps vs : List Pair) → all_some (λ p. with_value rs p) ps ≡ Some vs → is_above k ps ≡ true → is_above k vs ≡ true
values_above k rs [] vs h a = let none : [] ≡ vs = cc in subst (λ us. is_above k us ≡ true) none refl
values_above k rs (p ∷ ps) vs h a = let v = valued p.0 (value_of_reference rs p.1) (all_some (λ q. with_value rs q) ps) vs h in subst (λ us. is_above k us ≡ true) v.2 a

pub values_rise : (rs : List MethodResponse) (ps vs : List Pair) → all_some (λ p. with_value rs p) ps ≡ Some vs → keys_rise ps ≡ true → keys_rise vs ≡ true
values_rise rs [] vs h r = let none : [] ≡ vs = cc in subst (λ us. keys_rise us ≡ true) none refl
values_rise rs (p ∷ ps) vs h r =
    let rise = and_parts (is_above p.0 ps) (keys_rise ps) r in
    let v = valued p.0 (value_of_reference rs p.1) (all_some (λ q. with_value rs q) ps) vs h in
    subst (λ us. keys_rise us ≡ true) v.2 (and_from _ _ (values_above p.0 rs ps v.1 v.3 rise.0) (values_rise rs ps v.1 v.3 rise.1))

-- arguments without both forms come to the plain ones with these values put in
referred_as_named : (rs : List MethodResponse) (ps : List Pair) → all_some (referred_member rs) ps ≡ all_some (λ p. with_value rs p) (map (λ p. (drop 1 p.0, p.1)) ps)
referred_as_named rs [] = refl
referred_as_named rs (p ∷ ps) = rw (referred_as_named rs ps) refl

pub resolution_of_parts : (rs : List MethodResponse) (arguments : List Pair) → has_too_many arguments ≡ false → list_any (λ p. has_both_forms arguments p) arguments ≡ false
    → resolution rs arguments ≡ with_referred arguments (all_some (λ p. with_value rs p) (references_in arguments))
resolution_of_parts rs arguments f h = rw (f, h, referred_as_named rs (filter is_reference arguments)) refl

pub resolved_by_parts : (rs : List MethodResponse) (arguments plain references values o : List Pair) → has_too_many arguments ≡ false → list_any (λ p. has_both_forms arguments p) arguments ≡ false → plain ≡ plain_in arguments → references ≡ references_in arguments
    → all_some (λ p. with_value rs p) references ≡ Some values → IfSome (values_in rs arguments) (λ vs. size_of_values vs ≤ MAX_REFERRED_BYTES) → o ≡ put_all values plain → resolution rs arguments ≡ resolved o
resolved_by_parts rs arguments plain references values o f h p r v small e =
    let found : values_in rs arguments ≡ Some values = ap (λ ps. all_some (λ q. with_value rs q) ps) (sym r) ∙ v in
    let few : size_of_values values ≤ MAX_REFERRED_BYTES = subst (λ o. IfSome o (λ vs. size_of_values vs ≤ MAX_REFERRED_BYTES)) found small in
    let within : nat_lt MAX_REFERRED_BYTES (size_of_values values) ≡ false = le-ltb MAX_REFERRED_BYTES (size_of_values values) few in
    resolution_of_parts rs arguments f h ∙ (ap (λ found. with_referred arguments found) found ∙ (rw within refl ∙ ap resolved (sym (e ∙ ap (λ ps. put_all values ps) p))))

pub reports_bad : (e : ReferenceError) (rs : List MethodResponse) (arguments references : List Pair) → has_too_many arguments ≡ false → list_any (λ p. has_both_forms arguments p) arguments ≡ false → references ≡ references_in arguments
    → ReportsNone e (all_some (λ p. with_value rs p) references) → Reports e (resolution rs arguments)
reports_bad TooMany rs arguments references f h r n = absurd n
reports_bad BothForms rs arguments references f h r n = absurd n
reports_bad BadReference rs arguments references f h r n = resolution_of_parts rs arguments f h ∙ ap (λ found. with_referred arguments found) (ap (λ ps. all_some (λ q. with_value rs q) ps) (sym r) ∙ n)
reports_bad (TooLarge size) rs arguments references f h r n = absurd n
reports_bad NoMemory rs arguments references f h r n = tt
