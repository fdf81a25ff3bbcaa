use Rattle.std.proofs.Common.{◌≡◌, drop, map}
use Rattle.std.specs.Prelude.{is_some}
use Rattle.spec_json.specs.Parts.{all_some, as_text}
use Rattle.spec_json.specs.TreeData.{data_of}
use Rattle.batch_exec.proofs.arguments.are_texts.Given as goal

abbrev pub invariant-loop-item : goal.invariant-loop-item
invariant-loop-item l = is_some (all_some as_text (map data_of (drop l.item-index l.items))) ≡ is_some (all_some as_text (map data_of l.items))
