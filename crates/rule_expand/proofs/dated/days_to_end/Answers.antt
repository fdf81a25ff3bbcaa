-- Why these are the days to the month's end.
use Rattle.std.proofs.Common.{arith}
use Rattle.jiff_core.proofs.SignedLemmas.{signed_arith}
use Rattle.spec_time.specs.CivilDay.{month_of, year_of}
use Rattle.rule_expand.proofs.Dates.{at_law, month_last-is, month_length_bounds}
use Rattle.rule_expand.proofs.dated.days_to_end.Goals as goal

pub overflow_sub-result : goal.overflow_sub-result
overflow_sub-result c = omega (arith, signed_arith, (at_law c.args.at.day).0, c.args.at.length_is, c.args.at.month_day_is, month_length_bounds (year_of c.args.at.day) (month_of c.args.at.day), month_last-is c.args.at.day)

pub returns-clause-value : goal.returns-clause-value
returns-clause-value c = omega (arith, signed_arith, (at_law c.args.at.day).0, c.args.at.length_is, c.args.at.month_day_is, month_length_bounds (year_of c.args.at.day) (month_of c.args.at.day), month_last-is c.args.at.day)

pub returns-clause-bound : goal.returns-clause-bound
returns-clause-bound c = omega (arith, signed_arith, (at_law c.args.at.day).0, c.args.at.length_is, c.args.at.month_day_is, month_length_bounds (year_of c.args.at.day) (month_of c.args.at.day), month_last-is c.args.at.day)
