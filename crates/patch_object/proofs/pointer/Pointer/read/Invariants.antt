use Rattle.std.proofs.Common.{◌≡◌, ℕ, List, [], ◌++◌}
use Rattle.spec_json.specs.Pointer.{parts_from}
use Rattle.patch_object.specs.Reading.{read_on}
use Rattle.patch_object.proofs.pointer.Pointer.read.Given as goal

abbrev pub invariant-loop-c : goal.invariant-loop-c
invariant-loop-c l = (cs : List ℕ) → read_on l.reader cs ≡ parts_from [] (l.yielded ++ cs)
