use Rattle.std.proofs.Common.{◌≡◌, map, take}
use Rattle.spec_history.specs.ObjectId.{id_text}
use Rattle.spec_json.specs.Data.{text}
use Rattle.spec_json.specs.TreeData.{data_of}
use Rattle.query_methods.proofs.ids.id_list.Given as goal

abbrev pub invariant-loop-number : goal.invariant-loop-number
invariant-loop-number l = map data_of l.items.items ≡ map (λ id. text (id_text l.kind id)) (take l.number-index l.numbers)
