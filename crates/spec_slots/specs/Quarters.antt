-- The quarters of an hour at which a series may be asked to begin.
use Rattle.std.specs.Prelude.{◌≡◌, ◌≤ℤ◌, ◌<ℤ◌, ◌==◌, ◌-ℤ◌, ℕ, ℤ, Bool, true, List, filter, unsigned_abs}
use Rattle.spec_series.specs.Numbers.{numbers_from}
use Rattle.spec_time.specs.Floor.{modulo}

abbrev pub quarter_seconds : ℕ
quarter_seconds = 900

-- the wall second begins a quarter of an hour
abbrev pub is_quarter : ℤ → Bool
is_quarter x = modulo x quarter_seconds == 0

-- those from a wall second on up to but without another, which doesn't lie before it, in order
unfoldable pub quarters : ℤ → ℤ → List ℤ
quarters from to = filter is_quarter (numbers_from from (unsigned_abs (to -ℤ from)))

-- one of them
pub record IsQuarterOf (from to x : ℤ) : Type 0 where
  pub low : from ≤ℤ x
  pub high : x <ℤ to
  pub quarter : is_quarter x ≡ true
