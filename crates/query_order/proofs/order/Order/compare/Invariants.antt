use Rattle.std.proofs.Common.{◌≡◌, drop}
use Rattle.spec_queries.specs.Comparing.{by_all}
use Rattle.query_order.proofs.order.Order.compare.Given as goal

abbrev pub invariant-loop-comparator : goal.invariant-loop-comparator
invariant-loop-comparator l = by_all (drop l.comparator-index l.comparator-items) l.a l.b ≡ by_all l.comparator-items l.a l.b
