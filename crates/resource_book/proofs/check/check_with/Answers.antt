-- The first second that is shared with a booking, or with the series itself, is the first clash.
use Rattle.spec_bookings.specs.Bookings.{but}
use Rattle.residue_clash.proofs.Covering.{self_shared_by_test}
use Rattle.resource_book.proofs.Clashes.{exact_clash, clear_clash, least_clash}
use Rattle.resource_book.proofs.check.check_with.Goals as goal

pub returns-clause-exact : goal.returns-clause-exact
returns-clause-exact c =
    rw (c.clash_of.ensures, c.earlier_of.ensures)
    (exact_clash (but c.args.except c.args.bookings.now) c.args.series.now c.earliest_among_others-shared.result c.first_self_shared_by.result c.earliest_among_others-shared.ensures
    (self_shared_by_test c.args.series.now c.first_self_shared_by.result c.first_self_shared_by.ensures.least) c.first_self_shared_by.ensures.near)

pub returns-clause-clear : goal.returns-clause-clear
returns-clause-clear c =
    rw (c.clash_of.ensures, c.earlier_of.ensures)
    (clear_clash (but c.args.except c.args.bookings.now) c.args.series.now c.earliest_among_others-shared.result c.first_self_shared_by.result c.earliest_among_others-shared.ensures
    (self_shared_by_test c.args.series.now c.first_self_shared_by.result c.first_self_shared_by.ensures.least) c.first_self_shared_by.ensures.near)

pub returns-clause-least : goal.returns-clause-least
returns-clause-least c =
    rw (c.clash_of.ensures, c.earlier_of.ensures)
    (least_clash (but c.args.except c.args.bookings.now) c.args.series.now c.earliest_among_others-shared.result c.first_self_shared_by.result c.earliest_among_others-shared.ensures
    (self_shared_by_test c.args.series.now c.first_self_shared_by.result c.first_self_shared_by.ensures.least) c.first_self_shared_by.ensures.near)
