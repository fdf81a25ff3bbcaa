-- Whole numbers in order: what a test of two says, and when it holds.
use Rattle.std.proofs.Common.{◌≡◌, true, false, ℤ, ◌≤ℤ◌, int_le, int_lt, arith}
use Rattle.jiff_core.proofs.SignedLemmas.{signed_arith}

pub int_le_is : (a b : ℤ) → int_le a b ≡ true → a ≤ℤ b
int_le_is a b h = grind (arith, signed_arith)

pub is_int_le : (a b : ℤ) → a ≤ℤ b → int_le a b ≡ true
is_int_le a b h = grind (arith, signed_arith)

pub int_lt_not : (a b : ℤ) → int_lt a b ≡ false → b ≤ℤ a
int_lt_not a b h = grind (arith, signed_arith)
