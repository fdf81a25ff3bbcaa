use Rattle.std.proofs.Common.{◌≡◌, ◌++◌, drop, filter}
use Rattle.spec_history.specs.Pages.{is_in}
use Rattle.query_order.proofs.change.among.Given as goal

abbrev pub invariant-loop-id : goal.invariant-loop-id
invariant-loop-id l = l.found.items ++ filter (is_in l.sorted) (drop l.id-index l.ids) ≡ filter (is_in l.sorted) l.ids
