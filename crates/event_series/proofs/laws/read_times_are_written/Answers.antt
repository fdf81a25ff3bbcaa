use Rattle.event_series.proofs.LocalTextLemmas.{text_back}
use Rattle.event_series.proofs.laws.read_times_are_written.Goals as goal

pub returns : goal.returns
returns c = text_back
