use Rattle.std.proofs.Common.{◌≡◌, ◌++◌, drop, map}
use Rattle.cal_model.specs.SetReply.{destroyed_item}
use Rattle.cal_model.specs.Sets.{of_each}
use Rattle.spec_json.specs.TreeData.{data_of}
use Rattle.set_methods.proofs.changed.destroyed_ids.Given as goal

abbrev pub invariant-loop-i : goal.invariant-loop-i
invariant-loop-i l = map data_of l.ids.items ++ of_each destroyed_item ((drop l.i l.fn.named)) (drop l.i l.outcomes) ≡ of_each destroyed_item (l.fn.named) l.outcomes
