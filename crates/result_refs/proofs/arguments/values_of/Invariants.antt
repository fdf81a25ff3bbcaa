use Rattle.std.proofs.Common.{◌≡◌, ◌++◌, map, option_map}
use Rattle.std.specs.Vec.Iter.{into_iter_items}
use Rattle.spec_json.specs.Parts.{all_some}
use Rattle.spec_json.specs.TreeData.{pair_of}
use Rattle.result_refs.specs.Parted.{with_value}
use Rattle.result_refs.proofs.arguments.values_of.Given as goal

abbrev pub invariant-loop-key : goal.invariant-loop-key
invariant-loop-key l =
    option_map (λ ps. map pair_of l.values.items ++ ps) (all_some (λ p. with_value l.responses p) (map pair_of (into_iter_items l.key-iterator)))
    ≡ all_some (λ p. with_value l.responses p) l.fn.references
