use Rattle.spec_recurrence.proofs.OccurrenceIdLemmas.{id_back}
use Rattle.spec_recurrence.proofs.laws.written_occurrence_ids_are_read.Goals as goal

pub returns : goal.returns
returns c = id_back
