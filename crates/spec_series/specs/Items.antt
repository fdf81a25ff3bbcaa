-- The items of a list of numbers, from a number on.
use Rattle.std.specs.Prelude.{◌≡◌, Bool, true, false, ℤ, ◌≤ℤ◌, ◌<ℤ◌, List}
use Rattle.std.specs.List.{list_any}
use Rattle.std.specs.Ordering.{int_eq}

-- the number is an item
abbrev pub is_item : List ℤ → ℤ → Bool
is_item xs m = list_any (λ k. int_eq k m) xs

-- no item is so great
abbrev pub NoneFrom : List ℤ → ℤ → Type 0
NoneFrom xs low = (m : ℤ) → low ≤ℤ m → is_item xs m ≡ false

-- k is the least item that is so great
pub record IsLeastItem (xs : List ℤ) (low k : ℤ) : Type 0 where
  pub from : low ≤ℤ k
  pub item : is_item xs k ≡ true
  pub least : (m : ℤ) → low ≤ℤ m → m <ℤ k → is_item xs m ≡ false
