-- When a change may come next.
use Rattle.std.proofs.Common.{◌≡◌, ◌==◌, ◌||◌, ℕ, suc, List, Bool, true, false, Bor, Option, Some, None, arith, is_some, length, refl, ap}
use Rattle.std.specs.Prelude.{option_copied}
use Rattle.std.proofs.lemmas.Bool.Decides.{nat_tests}
use Rattle.object_log.specs.Puts.{ids_put, latest, may_come}
use Rattle.object_log.specs.declared.put.Put.{Put}

same_test : (a b : ℕ) → a ≡ b → (a == b) ≡ true
same_test a b h = grind (arith, nat_tests)

same_number : (a b : ℕ) → (a == b) ≡ true → a ≡ b
same_number a b h = grind (arith, nat_tests)

other_test : (a b : ℕ) → (a ≡ b → ⊥) → (a == b) ≡ false
other_test a b differ = by_test (a == b) refl
  where
    by_test : (t : Bool) → (a == b) ≡ t → t ≡ false
    by_test true is = absurd (differ (same_number a b is))
    by_test false is = refl

module _ {T : Type 0} (ps : List (Put T)) (p : Put T) where
  pub next_comes : p.id ≡ suc (length (ids_put ps)) → may_come ps p ≡ true
  next_comes is = ap (λ b. b || is_some (latest ps p.id)) (same_test p.id (suc (length (ids_put ps))) is)

  pub other_comes : (p.id ≡ suc (length (ids_put ps)) → ⊥) → may_come ps p ≡ is_some (latest ps p.id)
  other_comes differ = ap (λ b. b || is_some (latest ps p.id)) (other_test p.id (suc (length (ids_put ps))) differ)

pub copied_some : {T : Type 0} (o : Option (Bor T)) → is_some (option_copied o) ≡ is_some o
copied_some None = refl
copied_some (Some x) = refl
