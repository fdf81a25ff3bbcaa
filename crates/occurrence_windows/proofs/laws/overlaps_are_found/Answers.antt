-- The law of occurrences that overlap a window, by the lemma that proves it.
use Rattle.occurrence_windows.proofs.Passing.{overlapping_is}
use Rattle.occurrence_windows.proofs.laws.overlaps_are_found.Goals as goal

pub returns : goal.returns
returns c = overlapping_is
