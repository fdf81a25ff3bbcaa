-- The law of cycles, by the lemma that proves it.
use Rattle.civil_days.proofs.DateLemmas.{same_date_later}
use Rattle.civil_days.proofs.laws.same_date_later.Goals as goal

pub returns : goal.returns
returns c = same_date_later
