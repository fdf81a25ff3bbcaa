use Rattle.std.proofs.Common.{◌≡◌, ◌≤◌, ◌++◌, drop, length}
use Rattle.spec_queries.specs.QueryChanges.{with_places}
use Rattle.query_order.proofs.change.put_in.Given as goal

abbrev pub invariant-loop-place : goal.invariant-loop-place
invariant-loop-place l = record {
  bound : l.next ≤ length l.kept;
  rest : with_places (l.ids.items ++ drop l.next l.kept) (drop l.place-index l.places) ≡ with_places l.kept l.places;
}
