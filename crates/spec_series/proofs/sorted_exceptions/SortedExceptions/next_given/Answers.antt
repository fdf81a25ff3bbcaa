-- Why the search among what the exceptions give finds the first that comes later.
use Rattle.std.proofs.Common.{FitsSigned, not, of_calls, rules, w64}
use Rattle.std.specs.List.Sorted.{IsSortedBy}
use Rattle.std.proofs.lemmas.Fn.{always_returns_same}
use Rattle.spec_series.proofs.Given.{first_given, parted}
use Rattle.spec_series.specs.Given.{is_after, is_sooner}
use Rattle.spec_series.proofs.sorted_exceptions.SortedExceptions.next_given.Goals as goal

pub returns : goal.returns
returns c =
    let f : FitsSigned w64 c.args.from = c.ranges.from in
    let items = c.as_slice.ensures.value in
    let point = c.partition_point-place.ensures.partitioned (λ o. not (is_after c.args.from c.args.past o.start o.rid)) (always_returns_same _ _ _ (λ a r f k. search (rules, of_calls))) in
    let up : IsSortedBy is_sooner c.as_slice.result.now = rw items c.self.inside.sorted in
    let cut = rw items at (point (parted c.args.from c.args.past c.as_slice.result.now up)) in
    let at = rw c.deref.ensures.value at c.get.ensures.lookup.3 in
    rw (c.copied.ensures, ← c.self.view_is)
    (first_given c.self.inside.items.items c.self.inside.given.items c.self.inside.gives c.self.inside.sorted c.args.from c.args.past c.partition_point-place.result cut c.get.result at)
