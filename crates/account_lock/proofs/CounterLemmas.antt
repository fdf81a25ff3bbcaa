-- Sums of the amounts of a counter book.
use Rattle.std.proofs.Common.{◌≡◌, ◌+◌, List, [], ◌∷◌, ◌++◌, arith}
use Rattle.spec_history.specs.declared.entry.Entry.{Entry}
use Rattle.account_lock.specs.Counter.{sum_of_ids}

pub sum_of_ids_append : (xs ys : List Entry) → sum_of_ids (xs ++ ys) ≡ sum_of_ids xs + sum_of_ids ys
sum_of_ids_append [] ys = omega arith
sum_of_ids_append (x ∷ xs) ys = let tail = sum_of_ids_append xs ys in omega arith
