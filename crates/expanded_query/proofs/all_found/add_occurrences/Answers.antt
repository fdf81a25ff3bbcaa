use Rattle.std.proofs.Common.{◌∙◌, [], ◌∷◌, ◌++◌, ap, map, refl}
use Rattle.std.proofs.lemmas.List.{map-append}
use Rattle.expanded_query.proofs.PushLemmas.{pushed}
use Rattle.expanded_query.specs.Founds.{found_result}
use Rattle.jiff_tz.specs.PosixText.{tz_view}
use Rattle.spec_json.specs.TreeData.{data_of}
use Rattle.spec_queries.specs.Expanded.{occurrence_result}
use Rattle.spec_windows.specs.Clocks.{instant_in}
use Rattle.expanded_query.proofs.all_found.add_occurrences.Goals as goal

pub loop-occurrence-preserved : goal.loop-occurrence-preserved
loop-occurrence-preserved c =
    let made = occurrence_result (instant_in (tz_view c.args.source.now.rule)) c.args.source.now.number (data_of c.args.source.now.event.now) in
    let before = c.loop-occurrence.found.items in
    pushed (map made) made (λ x xs. refl) c.args.occurrences.now c.loop-occurrence.occurrence-index c.occurrence-item.result (map found_result before) _ _ c.loop-occurrence-test.true c.occurrence-item.is
    (ap (map found_result) c.in_ok-push.ensures.items ∙ map-append found_result before (c.in_ok-new.field-0 ∷ []) ∙ ap (λ r. map found_result before ++ r ∷ []) c.in_ok-new.ensures)
    c.loop-occurrence.invariant
