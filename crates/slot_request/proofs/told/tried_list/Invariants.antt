use Rattle.std.proofs.Common.{◌≡◌, map, take}
use Rattle.spec_slots.specs.Texts.{tried_data}
use Rattle.spec_json.specs.TreeData.{data_of}
use Rattle.slot_request.proofs.told.tried_list.Given as goal

abbrev pub invariant-loop-one : goal.invariant-loop-one
invariant-loop-one l = map data_of l.items.items ≡ map tried_data (take l.one-index l.tried)
