use Rattle.std.proofs.Common.{rules}
use Rattle.account_lock.proofs.StepLemmas.{reads}
use Rattle.account_lock.proofs.steps.read_history.Goals as goal

pub load-requires : goal.load-requires
load-requires g c = (search rules, search rules, reads g.B.Book.entries g.B.Book.base _ _ _ _ _ c.requires.may)
