use Rattle.std.proofs.Common.{◌≡◌, ◌++◌, map}
use Rattle.std.specs.Vec.Iter.{into_iter_items}
use Rattle.spec_json.specs.TreeData.{pair_of}
use Rattle.result_refs.specs.Parted.{plain_in, references_in}
use Rattle.result_refs.proofs.arguments.take_apart.Given as goal

abbrev pub invariant-loop-key : goal.invariant-loop-key
invariant-loop-key l = record {
  plain : map pair_of l.plain.items ++ plain_in (map pair_of (into_iter_items l.key-iterator)) ≡ plain_in l.fn.arguments;
  references : map pair_of l.references.items ++ references_in (map pair_of (into_iter_items l.key-iterator)) ≡ references_in l.fn.arguments;
}
