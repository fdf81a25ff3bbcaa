use Rattle.std.proofs.Common.{◌≡◌, map, take}
use Rattle.spec_json.specs.TreeData.{data_of}
use Rattle.spec_queries.specs.Changed.{added_item}
use Rattle.query_methods.proofs.changed.added_items.Given as goal

abbrev pub invariant-loop-place : goal.invariant-loop-place
invariant-loop-place l = map data_of l.items.items ≡ map added_item (take l.place-index l.places)
