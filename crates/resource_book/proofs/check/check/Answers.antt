-- The timetable is of the series.
use Rattle.std.proofs.Common.{option_map, subst}
use Rattle.spec_series.specs.declared.series.Series.{Series}
use Rattle.rule_expand.specs.Least.{IsLeastOf}
use Rattle.spec_bookings.specs.Bookings.{but}
use Rattle.spec_bookings.specs.Clashes.{IsClash, second_of}
use Rattle.resource_book.proofs.check.check.Goals as goal

pub returns-else-not-is_empty-clause-least : goal.returns-else-not-is_empty-clause-least
returns-else-not-is_empty-clause-least c =
    subst (λ (s : Series). IsLeastOf (IsClash (but c.args.except c.args.bookings.now) s) (option_map second_of c.check_with.result)) c.of.ensures c.check_with.ensures.least
