use Rattle.std.proofs.Common.{◌≡◌, true, map, arith, sym, subst}
use Rattle.std.proofs.lemmas.Grind.{common_steps}
use Rattle.spec_json.specs.ObjectKeys.{keys_rise}
use Rattle.spec_json.specs.TreeData.{pair_of}
use Rattle.result_refs.proofs.PartedLemmas.{names_rise, plain_rises}
use Rattle.result_refs.specs.Parted.{plain_in, references_in}
use Rattle.result_refs.proofs.arguments.take_apart.Goals as goal

pub new-requires : goal.new-requires
new-requires c =
    let all : map pair_of c.loop-key.plain.items ≡ plain_in c.args.arguments = grind (arith, common_steps) in
    subst (λ ps. keys_rise ps ≡ true) (sym all) (plain_rises c.args.arguments c.into_members-key-items.ensures.ordered)

pub new-requires-2 : goal.new-requires-2
new-requires-2 c =
    let all : map pair_of c.loop-key.references.items ≡ references_in c.args.arguments = grind (arith, common_steps) in
    subst (λ ps. keys_rise ps ≡ true) (sym all) (names_rise c.args.arguments c.into_members-key-items.ensures.ordered)
