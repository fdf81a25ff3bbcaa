-- The timetable is of the series.
use Rattle.std.proofs.Common.{option_map, subst}
use Rattle.spec_series.specs.declared.series.Series.{Series}
use Rattle.rule_expand.specs.Least.{IsLeastOf}
use Rattle.spec_bookings.specs.Bookings.{but}
use Rattle.spec_bookings.specs.Clashes.{IsClash, second_of}
use Rattle.resource_book.proofs.check.check_by_maps.Goals as goal

pub returns-clause-least : goal.returns-clause-least
returns-clause-least c =
    subst (λ (s : Series). IsLeastOf (IsClash (but c.args.except c.args.bookings.now) s) (option_map second_of c.check_with.result)) c.with_maps-table.ensures c.check_with.ensures.least
