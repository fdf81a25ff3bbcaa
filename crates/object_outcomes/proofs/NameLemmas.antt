-- Names of bad properties with one more.
use Rattle.std.proofs.Common.{◌≡◌, ◌==◌, ℕ, List, [], ◌∷◌, Bool, true, false, Option, length, if◌then◌else◌, arith, refl, sym, ap, ◌∙◌}
use Rattle.std.proofs.lemmas.Bool.{false≢true}
use Rattle.std.proofs.lemmas.Bool.Decides.{nat_tests}
use Rattle.std.specs.Cmp.Lexicographic.{slice_cmp}
use Rattle.std.specs.Ordering.{nat_cmp, is_lt}
use Rattle.std.specs.Str.{bytes_eq}
use Rattle.cal_model.specs.Operations.{after_tests, with_name_if}
use Rattle.cal_model.specs.declared.outcome.Outcome.TheVariants.{Refused}
use Rattle.cal_model.specs.declared.set_error.SetError.TheVariants.{InvalidProperties}
use Rattle.spec_history.specs.declared.entry.Change.{Change}
use Rattle.spec_bookings.specs.declared.clash.Clash.{Clash}
use Rattle.property_table.specs.Names.{put_name}

put_some : (n m : List ℕ) (ms : List (List ℕ)) (below same : Bool) → (if below then m ∷ put_name n ms else if same then m ∷ ms else n ∷ m ∷ ms) ≡ [] → ⊥
put_some n m ms true same h = cc
put_some n m ms false true h = cc
put_some n m ms false false h = cc

put_none : (n : List ℕ) (names : List (List ℕ)) → put_name n names ≡ [] → ⊥
put_none n [] h = cc
put_none n (m ∷ ms) h = put_some n m ms (is_lt (slice_cmp nat_cmp m n)) (bytes_eq m n) h

-- where no names are there with one that may be put in, it isn't, and there were none
pub none_named : (b : Bool) (n : List ℕ) (names : List (List ℕ)) → with_name_if b n names ≡ [] → (b ≡ false) × (names ≡ [])
none_named true n names h = absurd (put_none n names h)
none_named false n names h = (refl, h)

-- where there were some, there are some with one that may be put in
pub some_named : (b : Bool) (n : List ℕ) (names : List (List ℕ)) → (names ≡ [] → ⊥) → with_name_if b n names ≡ [] → ⊥
some_named b n names some h = some (none_named b n names h).1

no_names : (names : List (List ℕ)) → true ≡ (length names == 0) → names ≡ []
no_names [] h = refl
no_names (n ∷ ns) h = absurd (grind (arith, nat_tests))

-- a list that is empty holds no names
pub none_left : (names : List (List ℕ)) (b : Bool) → b ≡ true → b ≡ (length names == 0) → names ≡ []
none_left names b e h = no_names names (sym e ∙ h)

-- and one that isn't holds some
pub some_left : (names : List (List ℕ)) (b : Bool) → b ≡ false → b ≡ (length names == 0) → names ≡ [] → ⊥
some_left names b e h none = let no : (length names == 0) ≡ true = ap (λ ns. length ns == 0) none in false≢true (sym e ∙ h ∙ no)

-- names that aren't none are some
pub not_none : (names : List (List ℕ)) → (names ≡ [] → ⊥) → (length names == 0) ≡ false
not_none [] h = absurd (h refl)
not_none (n ∷ names) h = grind (arith, nat_tests)

-- names that are some are told
pub refused_names : (cs : List Change) (is_full : Bool) (clash : Option (ℕ × Clash)) (c : Change) (names : List (List ℕ)) → (names ≡ [] → ⊥)
    → Refused (InvalidProperties names) ≡ after_tests cs is_full clash c names
refused_names cs is_full clash c [] some = absurd (some refl)
refused_names cs is_full clash c (n ∷ names) some = refl
