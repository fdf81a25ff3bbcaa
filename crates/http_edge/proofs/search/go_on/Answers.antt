use Rattle.std.proofs.Common.{◌+◌, take, arith, sym, subst}
use Rattle.http_edge.specs.Searches.{IsSearched}
use Rattle.http_edge.proofs.Searching.{go_more, go_found}
use Rattle.http_edge.proofs.search.go_on.Goals as goal

pub returns-in-None-clause-finds : goal.returns-in-None-clause-finds
returns-in-None-clause-finds c = (omega arith, go_found c.args.bytes.now c.loop-i.i c.loop-i.state c.loop-i-test.true c.loop-i.invariant.searched c.in-None.ensures.last)

pub loop-i-preserved : goal.loop-i-preserved
loop-i-preserved c =
    let once = c.loop-i.invariant.once in
    let counted = c.in-Some.ensures.counted in
    record {
      within = omega arith;
      searched = subst (IsSearched (take (c.loop-i.i + 1) c.args.bytes.now)) (sym c.in-Some.ensures.next.1) (go_more c.args.bytes.now c.loop-i.i c.loop-i.state c.loop-i-test.true c.loop-i.invariant.searched c.in-Some.ensures.next.0);
      once = omega (arith, once, counted);
    }
