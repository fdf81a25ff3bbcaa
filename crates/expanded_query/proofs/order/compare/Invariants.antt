use Rattle.std.proofs.Common.{◌≡◌, drop}
use Rattle.expanded_query.specs.Founds.{found_item}
use Rattle.spec_queries.specs.Comparing.{by_all}
use Rattle.expanded_query.proofs.order.compare.Given as goal

abbrev pub invariant-loop-comparator : goal.invariant-loop-comparator
invariant-loop-comparator l = by_all (drop l.comparator-index l.comparators) (found_item l.a) (found_item l.b) ≡ by_all l.comparators (found_item l.a) (found_item l.b)
