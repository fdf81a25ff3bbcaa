-- The laws of the bookings at a history.
use Rattle.spec_bookings.proofs.Folded.{change_more}
use Rattle.spec_bookings.proofs.Listed.{live_booked, live_rise}
use Rattle.spec_bookings.proofs.laws.bookings_are_of_live_events.Goals as goal

pub returns-clause-rise : goal.returns-clause-rise
returns-clause-rise c = live_rise

pub returns-clause-each : goal.returns-clause-each
returns-clause-each c = live_booked

pub returns-clause-step : goal.returns-clause-step
returns-clause-step c = change_more
