use Rattle.std.proofs.Common.{◌≤◌, length, rules}
use Rattle.expanded_query.proofs.FirstLemmas.{first_ids}
use Rattle.expanded_query.proofs.window.first_up_to.Goals as goal

pub returns-then-count-len : goal.returns-then-count-len
returns-then-count-len c =
    let enough : c.args.count ≤ length c.in_ok-first.first.items = search rules in
    first_ids c.args.order.now c.args.last.now c.args.count c.in_ok-first.first.items c.args.results.now c.in_ok-first.ensures enough
