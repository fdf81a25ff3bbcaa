use Rattle.event_model.proofs.IdLemmas.{separated_bytes}
use Rattle.event_model.proofs.ids.read_separated.Goals as goal

pub returns-clause-value : goal.returns-clause-value
returns-clause-value c = rw (separated_bytes c.args.t.now c.requires) c.read_local.ensures.value
