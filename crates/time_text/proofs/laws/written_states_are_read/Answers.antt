use Rattle.time_text.proofs.StateLemmas.{state_back}
use Rattle.time_text.proofs.laws.written_states_are_read.Goals as goal

pub returns : goal.returns
returns c = state_back
