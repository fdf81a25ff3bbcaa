use Rattle.account_opening.proofs.again.Again.series_fit.Goals as goal

pub returns-clause-fit : goal.returns-clause-fit
returns-clause-fit c =
    let storable = rw c.in-Some.is at c.in_ok-series.ensures.storable in
    record { calendars = storable.calendars; bookings = c.stands_against-against.ensures.nothing c.if-against.false c.in-None.is }
