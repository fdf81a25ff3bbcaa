use Rattle.std.proofs.Common.{◌≡◌, map}
use Rattle.spec_json.specs.Data.{text}
use Rattle.spec_json.specs.TreeData.{data_of}
use Rattle.object_outcomes.proofs.texts.text_list.Given as goal

abbrev pub invariant-loop-text : goal.invariant-loop-text
invariant-loop-text l = map data_of l.trees.items ≡ map text l.yielded
