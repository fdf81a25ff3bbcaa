use Rattle.std.proofs.Common.{◌≡◌, drop, map}
use Rattle.spec_json.specs.Parts.{members_in}
use Rattle.spec_json.specs.TreeData.{data_of}
use Rattle.property_table.specs.OnePass.{with_missing}
use Rattle.property_table.specs.Table.{given}
use Rattle.property_table.proofs.table.add_missing.Given as goal

abbrev pub invariant-loop-name : goal.invariant-loop-name
invariant-loop-name l =
    let ps = given (members_in (data_of l.tree)) in
    with_missing ps (map (λ name. name.now) (drop l.name-index l.required)) l.names.items ≡ with_missing ps (map (λ name. name.now) l.required) l.initial.names.items
