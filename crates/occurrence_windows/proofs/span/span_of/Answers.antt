use Rattle.std.proofs.Common.{FitsSigned, w64, rules, sym}
use Rattle.std.proofs.lemmas.Int.{to_z-of_z}
use Rattle.jiff_tz.specs.PosixText.{tz_view}
use Rattle.spec_windows.specs.Clocks.{instant_in}
use Rattle.occurrence_windows.proofs.Overlapping.{instant_near}
use Rattle.occurrence_windows.proofs.Series.{rule_instants}
use Rattle.occurrence_windows.proofs.span.span_of.Goals as goal

pub seconds_later-requires-clause-instant : goal.seconds_later-requires-clause-instant
seconds_later-requires-clause-instant c =
    let l : FitsSigned w64 c.in-Some-instant.last = search rules in
    simp to_z-of_z (instant_near (instant_in (tz_view c.args.rule.now)) (rule_instants c.args.rule.now) c.days_later.result c.in-Some-instant.last (sym c.in-Some-instant.ensures.value))
