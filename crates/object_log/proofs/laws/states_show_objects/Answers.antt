use Rattle.object_log.proofs.LawLemmas.{ids_are, length-mentions, live_at_state, object_is_last}
use Rattle.object_log.proofs.laws.states_show_objects.Goals as goal

pub returns-clause-objects : goal.returns-clause-objects
returns-clause-objects c = object_is_last

pub returns-clause-live : goal.returns-clause-live
returns-clause-live c = live_at_state

pub returns-clause-ids : goal.returns-clause-ids
returns-clause-ids c = ids_are

pub returns-clause-state : goal.returns-clause-state
returns-clause-state c = length-mentions
