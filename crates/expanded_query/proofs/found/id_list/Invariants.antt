use Rattle.std.proofs.Common.{◌≡◌, ◌++◌, drop, map}
use Rattle.expanded_query.specs.Founds.{id_at}
use Rattle.spec_json.specs.Data.{text}
use Rattle.spec_json.specs.TreeData.{data_of}
use Rattle.expanded_query.proofs.found.id_list.Given as goal

abbrev pub invariant-loop-result : goal.invariant-loop-result
invariant-loop-result l = map data_of l.items.items ++ map text (map id_at (drop l.result-index l.results)) ≡ map text (map id_at l.results)
