use Rattle.std.proofs.Common.{◌≡◌, ◌||◌, ℕ, List, drop}
use Rattle.std.specs.BTreeSet.{contains_text}
use Rattle.property_table.specs.Names.{has_name}
use Rattle.account_core.proofs.asked.set_of.Given as goal

abbrev pub invariant-loop-name : goal.invariant-loop-name
invariant-loop-name l = (name : List ℕ) → (contains_text l.set name || has_name (drop l.name-index l.names) name) ≡ has_name l.names name
