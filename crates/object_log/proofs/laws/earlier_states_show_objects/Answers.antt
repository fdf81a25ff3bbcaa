use Rattle.object_log.proofs.EarlierLemmas.{live_earlier}
use Rattle.object_log.proofs.laws.earlier_states_show_objects.Goals as goal

pub returns : goal.returns
returns c = live_earlier
