use Rattle.std.proofs.Common.{◌≡◌, ◌++◌, drop, filter, not}
use Rattle.spec_history.specs.Pages.{is_in}
use Rattle.query_order.proofs.change.without.Given as goal

abbrev pub invariant-loop-id : goal.invariant-loop-id
invariant-loop-id l = l.kept.items ++ filter (λ id. not (is_in l.sorted id)) (drop l.id-index l.ids) ≡ filter (λ id. not (is_in l.sorted id)) l.ids
