use Rattle.std.proofs.Common.{◌∙◌}
use Rattle.query_order.proofs.BinarySearch.{found_is}
use Rattle.query_order.proofs.change.is_in.Goals as goal

pub returns : goal.returns
returns c = c.is_ok.ensures.value ∙ found_is c.args.sorted.now c.args.id c.binary_search.result c.requires c.binary_search.ensures.position
