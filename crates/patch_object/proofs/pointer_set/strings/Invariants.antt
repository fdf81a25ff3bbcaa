use Rattle.std.proofs.Common.{◌≡◌, take, map, string_bytes}
use Rattle.patch_object.proofs.pointer_set.strings.Given as goal

abbrev pub invariant-loop-part : goal.invariant-loop-part
invariant-loop-part l = map string_bytes l.strings.items ≡ take l.part-index l.parts
