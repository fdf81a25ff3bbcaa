-- The least of the whole numbers from one on of which a fact holds.
use Rattle.std.specs.Prelude.{ℤ, ◌≤ℤ◌}

-- x is the least number at or after `from` of which P holds
pub record IsLeastFrom (from : ℤ) (P : ℤ → Type 0) (x : ℤ) : Type 0 where
  pub at_or_after : from ≤ℤ x
  pub holds : P x
  pub least : (y : ℤ) → from ≤ℤ y → P y → x ≤ℤ y
