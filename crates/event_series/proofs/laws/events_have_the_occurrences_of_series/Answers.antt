use Rattle.event_series.proofs.OccurrenceLemmas.{has_occurrence_of}
use Rattle.event_series.proofs.laws.events_have_the_occurrences_of_series.Goals as goal

pub returns : goal.returns
returns c = has_occurrence_of
