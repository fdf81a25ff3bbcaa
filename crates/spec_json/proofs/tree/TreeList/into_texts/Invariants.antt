use Rattle.std.proofs.Common.{◌≡◌, ◌++◌, map, option_map}
use Rattle.std.specs.Vec.Iter.{into_iter_items}
use Rattle.spec_json.specs.Parts.{all_some, as_text}
use Rattle.spec_json.specs.TreeData.{data_of}
use Rattle.spec_json.proofs.tree.TreeList.into_texts.Given as goal

abbrev pub invariant-loop-item : goal.invariant-loop-item
invariant-loop-item l = all_some as_text l.fn.self ≡ option_map (λ xs. l.texts.items ++ xs) (all_some as_text (map data_of (into_iter_items l.item-iterator)))
