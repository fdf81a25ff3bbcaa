use Rattle.std.proofs.Common.{◌≡◌, Some, map, arith}
use Rattle.std.proofs.lemmas.Grind.{common_steps}
use Rattle.spec_json.specs.Parts.{all_some}
use Rattle.spec_json.specs.TreeData.{pair_of}
use Rattle.result_refs.proofs.PartedLemmas.{values_rise}
use Rattle.result_refs.specs.Parted.{with_value}
use Rattle.result_refs.proofs.arguments.values_of.Goals as goal

pub new-requires : goal.new-requires
new-requires c =
    let all : all_some (λ p. with_value c.args.responses.now p) c.args.references ≡ Some (map pair_of c.loop-key.values.items) = grind (arith, common_steps) in
    values_rise c.args.responses.now c.args.references (map pair_of c.loop-key.values.items) all c.into_members-key-items.ensures.ordered
