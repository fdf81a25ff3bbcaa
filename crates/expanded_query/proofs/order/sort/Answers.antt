use Rattle.std.proofs.Common.{rules}
use Rattle.std.proofs.lemmas.Result.{on_ok_weaker}
use Rattle.expanded_query.proofs.OrderLemmas.{sorted_ids}
use Rattle.expanded_query.proofs.order.sort.Goals as goal

pub returns : goal.returns
returns c = on_ok_weaker c.sort_by.result (λ sorted. sorted_ids c.args.order.now c.args.results.now.items c.sort_by.new.self.items sorted c.sort_by.ensures.stable (λ a r q k. search rules)) c.sort_by.ensures.sorted
