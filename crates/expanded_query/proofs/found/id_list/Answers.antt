use Rattle.std.proofs.Common.{◌∙◌, List, [], ◌∷◌, ◌++◌, ap, map, refl, ℕ}
use Rattle.std.proofs.lemmas.List.{map-append}
use Rattle.expanded_query.proofs.PushLemmas.{pushed}
use Rattle.expanded_query.specs.Founds.{id_at}
use Rattle.spec_json.specs.Data.{text}
use Rattle.spec_json.specs.TreeData.{data_of}
use Rattle.expanded_query.proofs.found.id_list.Goals as goal

pub loop-result-preserved : goal.loop-result-preserved
loop-result-preserved c =
    let before = c.loop-result.items.items in
    pushed (λ rs. map text (map id_at rs)) (λ r. text (id_at r)) (λ x xs. refl) c.args.results.now c.loop-result.result-index c.result-item.result (map data_of before) _ _ c.loop-result-test.true c.result-item.is
    (ap (map data_of) c.in_ok-push.ensures.items ∙ map-append data_of before _ ∙ ap (λ (id : List ℕ). map data_of before ++ text id ∷ []) c.in_ok-id.ensures)
    c.loop-result.invariant
