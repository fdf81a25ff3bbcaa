use Rattle.std.proofs.Common.{◌≡◌, ◌++◌, drop, map}
use Rattle.expanded_query.specs.Founds.{found_result}
use Rattle.jiff_tz.specs.PosixText.{tz_view}
use Rattle.spec_json.specs.TreeData.{data_of}
use Rattle.spec_queries.specs.Expanded.{occurrence_result}
use Rattle.spec_windows.specs.Clocks.{instant_in}
use Rattle.expanded_query.proofs.all_found.add_occurrences.Given as goal

abbrev pub invariant-loop-occurrence : goal.invariant-loop-occurrence
invariant-loop-occurrence l =
    map found_result l.found.items ++ map (occurrence_result (instant_in (tz_view l.source.rule)) l.source.number (data_of l.source.event.now)) (drop l.occurrence-index l.occurrences)
    ≡ map found_result l.initial.found.items ++ map (occurrence_result (instant_in (tz_view l.source.rule)) l.source.number (data_of l.source.event.now)) l.occurrences
