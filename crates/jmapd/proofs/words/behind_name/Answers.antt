use Rattle.std.proofs.Common.{sym, ◌∙◌, rules}
use Rattle.std.proofs.lemmas.Iterator.Adapters.{YieldsList-from_skip, YieldsList-from_vec}
use Rattle.std.proofs.lemmas.Iterator.Consumers.{YieldsList-end}
use Rattle.std.proofs.lemmas.List.{map-id}
use Rattle.std.specs.Vec.Iter.{into_iter_items}
use Rattle.jmapd.proofs.words.behind_name.Goals as goal

pub returns : goal.returns
returns c =
    let all = YieldsList-from_skip {s = c.into_iter-word-iterator.result} 1 (YieldsList-from_vec {s = c.into_iter-word-iterator.result.iter} (into_iter_items c.args.all) (search rules) (search rules)) (search rules) in
    let end = YieldsList-end all c.loop-word.yielded c.loop-word.word-iterator c.loop-word.yielded_by c.next.result c.next.new.self c.in-None.is c.next.ensures.steps in
    c.loop-word.invariant ∙ (sym (map-id c.loop-word.yielded) ∙ end.0)
