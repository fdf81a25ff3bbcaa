use Rattle.std.proofs.Common.{codes}
use Rattle.object_outcomes.proofs.ResolvedLemmas.{below_cut, text_cut}
use Rattle.object_outcomes.proofs.resolved.below_calendar_ids.Goals as goal

pub returns : goal.returns
returns c = below_cut c.args.key.now c.strip_prefix.result (text_cut (codes "calendarIds/") c.args.key.now c.strip_prefix.result c.strip_prefix.ensures.cases)
