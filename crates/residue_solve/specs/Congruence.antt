-- Congruence of whole numbers.
use Rattle.std.specs.Prelude.{◌≡◌, ℤ, ◌+ℤ◌, ◌*ℤ◌}

-- x and y agree modulo n: they differ by a whole multiple of n
abbrev pub Congruent : ℤ → ℤ → ℤ → Type 0
Congruent n x y = (k : ℤ) × (x ≡ y +ℤ k *ℤ n)
