use Rattle.std.proofs.Common.{true, false, ◌∙◌}
use Rattle.event_source.proofs.SwitchTexts.{of_all, of_calendars, of_events, of_none, types_are}
use Rattle.event_source.proofs.switch_text.switch_text.Goals as goal

pub returns-in-true-true : goal.returns-in-true-true
returns-in-true-true c = of_all ∙ types_are c.args.types true true c.in-true-true.is-0 c.in-true-true.is-1

pub returns-in-true-false : goal.returns-in-true-false
returns-in-true-false c = of_calendars ∙ types_are c.args.types true false c.in-true-false.is-0 c.in-true-false.is-1

pub returns-in-false-true : goal.returns-in-false-true
returns-in-false-true c = of_events ∙ types_are c.args.types false true c.in-false-true.is-0 c.in-false-true.is-1

pub returns-in-false-false : goal.returns-in-false-false
returns-in-false-false c = of_none ∙ types_are c.args.types false false c.in-false-false.is-0 c.in-false-false.is-1
