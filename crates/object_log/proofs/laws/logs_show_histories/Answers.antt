use Rattle.object_log.proofs.HistoryLemmas.{shows_earlier, shows_ids, shows_known, shows_mentions, shows_object}
use Rattle.object_log.proofs.laws.logs_show_histories.Goals as goal

pub returns-clause-objects : goal.returns-clause-objects
returns-clause-objects g c = λ read ps kind cs follows id. shows_object read ps kind cs follows id

pub returns-clause-at_state : goal.returns-clause-at_state
returns-clause-at_state g c = λ read ps kind cs follows k id. shows_earlier read ps kind cs follows k id

pub returns-clause-ids : goal.returns-clause-ids
returns-clause-ids g c = λ read ps kind cs follows. shows_ids read ps kind cs follows

pub returns-clause-mentions : goal.returns-clause-mentions
returns-clause-mentions g c = λ read ps kind cs follows. shows_mentions read ps kind cs follows

pub returns-clause-known : goal.returns-clause-known
returns-clause-known g c = λ read ps kind cs follows k. shows_known read ps kind cs follows k
