use Rattle.spec_series.proofs.Occurrences.{both_kinds}
use Rattle.spec_series.proofs.laws.occurrences_are_of_two_kinds.Goals as goal

pub returns : goal.returns
returns c = both_kinds
