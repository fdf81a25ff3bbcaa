-- An item beside its number, as the code has the two while it sorts.
use Rattle.std.specs.Prelude.{ℕ}
use Rattle.std.specs.Borrow.{Bor}
use Rattle.spec_queries.specs.declared.item.Item.{Item}

abbrev pub numbered_item : ℕ × Bor Item → ℕ × Item
numbered_item p = (p.0, p.1.now)
