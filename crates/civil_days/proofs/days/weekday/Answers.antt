-- Why `weekday` gives the day of the week.
use Rattle.std.proofs.Common.{arith}
use Rattle.jiff_core.proofs.SignedLemmas.{signed_casts}
use Rattle.spec_time.specs.CivilDay.{weekday_of}
use Rattle.civil_days.proofs.days.weekday.Goals as goal

pub returns-clause-value : goal.returns-clause-value
unfolding weekday_of
returns-clause-value c = omega (arith, signed_casts)
