-- Why the day is the last of its month.
use Rattle.rule_expand.proofs.Overflow.{last_by}
use Rattle.rule_expand.proofs.moved.is_last.Goals as goal

pub returns : goal.returns
returns c = last_by c.args.at.day c.args.at.month_day c.args.at.length c.args.at.month_day_is c.args.at.length_is
