use Rattle.std.proofs.Common.{◌≡◌, ◌++◌, drop}
use Rattle.spec_history.specs.Pages.{is_in}
use Rattle.spec_queries.specs.QueryChanges.{indexed}
use Rattle.query_order.proofs.change.places_of.Given as goal

abbrev pub invariant-loop-index : goal.invariant-loop-index
invariant-loop-index l = l.found.items ++ indexed (is_in l.sorted) l.index (drop l.index l.ids) ≡ indexed (is_in l.sorted) 0 l.ids
