use Rattle.jiff_tz.specs.PosixText.{tz_view}
use Rattle.spec_windows.specs.Clocks.{instant_in}
use Rattle.spec_windows.specs.Windows.{IsOverlapping}
use Rattle.occurrence_windows.proofs.Overlapping.{at_first, some_one}
use Rattle.occurrence_windows.proofs.Passing.{overlapping_value}
use Rattle.occurrence_windows.proofs.Series.{rule_instants}
use Rattle.occurrence_windows.proofs.walk.matches_window.Goals as goal

pub returns-clause-one : goal.returns-clause-one
returns-clause-one c =
    rw c.is_some.ensures (some_one (IsOverlapping c.args.series.now (instant_in (tz_view c.args.rule.now)) c.args.window) c.first_wall.result c.next_overlapping.result
    (λ q m. at_first (instant_in (tz_view c.args.rule.now)) c.args.window q c.longest.result c.first_wall.result (rule_instants c.args.rule.now) (c.longest.ensures.all q m.0) c.first_wall.ensures.value m.1)
    c.next_overlapping.ensures)

pub returns-clause-value : goal.returns-clause-value
returns-clause-value c = overlapping_value c.args.series.now (tz_view c.args.rule.now) c.args.window c.is_some.result (returns-clause-one c)
