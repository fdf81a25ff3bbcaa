-- The laws of seconds that are covered twice.
use Rattle.spec_bookings.proofs.Doubles.{double-without, double-with}
use Rattle.spec_bookings.proofs.laws.bookings_stay_free.Goals as goal

pub returns-clause-fewer : goal.returns-clause-fewer
returns-clause-fewer c = λ bs n free x. double-without n bs x (free x)

pub returns-clause-more : goal.returns-clause-more
returns-clause-more c = λ bs n s free clear x. double-with n s bs x (free x) (clear x)
