use Rattle.object_log.proofs.LawLemmas.{page_ends, page_fits, page_longest}
use Rattle.object_log.proofs.laws.pages_are_longest.Goals as goal

pub returns-clause-end : goal.returns-clause-end
returns-clause-end c = page_ends

pub returns-clause-within : goal.returns-clause-within
returns-clause-within c = page_fits

pub returns-clause-longest : goal.returns-clause-longest
returns-clause-longest c = page_longest
