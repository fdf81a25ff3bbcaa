use Rattle.std.proofs.Common.{◌∙◌, ap, map, refl}
use Rattle.std.proofs.lemmas.List.{map-append}
use Rattle.expanded_query.proofs.PushLemmas.{pushed}
use Rattle.expanded_query.specs.Founds.{found_result, ranked_result}
use Rattle.expanded_query.proofs.order.references.Goals as goal

pub loop-one-preserved : goal.loop-one-preserved
loop-one-preserved c =
    let before = c.loop-one.results.items in
    pushed (map found_result) found_result (λ x xs. refl) c.args.found.now c.loop-one.one-index c.one-item.result (map ranked_result before) _ _ c.loop-one-test.true c.one-item.is
    (ap (map ranked_result) c.in_ok-push.ensures.items ∙ map-append ranked_result before _)
    c.loop-one.invariant
