use Rattle.std.proofs.Common.{◌≡◌, drop}
use Rattle.spec_json.specs.TreeData.{data_of}
use Rattle.spec_queries.specs.Items.{item_of}
use Rattle.query_methods.specs.Compared.{compared, with_compared}
use Rattle.query_methods.proofs.item.compared_item.Given as goal

abbrev pub invariant-loop-comparator : goal.invariant-loop-comparator
invariant-loop-comparator l =
    let whole = item_of l.zones l.floating (data_of l.event) in
    with_compared whole (drop l.comparator-index l.comparator-items) l.item ≡ compared l.comparator-items whole
