use Rattle.spec_series.proofs.FirstEdition.{set_same}
use Rattle.spec_series.proofs.laws.rules_keep_their_meaning.Goals as goal

pub returns : goal.returns
returns c = set_same
