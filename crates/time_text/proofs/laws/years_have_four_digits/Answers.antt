-- The law of four digits, by the lemma that proves it.
use Rattle.time_text.proofs.DateLemmas.{four_digits}
use Rattle.time_text.proofs.laws.years_have_four_digits.Goals as goal

pub returns : goal.returns
returns c = four_digits
