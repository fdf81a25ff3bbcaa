-- The law of days, by the lemma that proves it.
use Rattle.civil_days.proofs.DateLemmas.{one_date}
use Rattle.civil_days.proofs.laws.one_date_a_day.Goals as goal

pub returns : goal.returns
returns c = one_date
