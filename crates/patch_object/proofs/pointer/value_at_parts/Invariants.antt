use Rattle.std.proofs.Common.{◌≡◌, drop}
use Rattle.spec_json.specs.Pointer.{value_at}
use Rattle.spec_json.specs.TreeData.{data_of}
use Rattle.patch_object.proofs.pointer.value_at_parts.Given as goal

abbrev pub invariant-loop-part : goal.invariant-loop-part
invariant-loop-part l = value_at (drop l.part-index l.parts) (data_of l.value) ≡ value_at l.parts (data_of l.tree)
