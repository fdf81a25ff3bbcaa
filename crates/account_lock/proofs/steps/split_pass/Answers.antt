use Rattle.std.proofs.Common.{rules}
use Rattle.account_lock.proofs.StepLemmas.{splits}
use Rattle.account_lock.proofs.steps.split_pass.Goals as goal

pub split_seat-requires : goal.split_seat-requires
split_seat-requires g c = (search rules, search rules, splits g.B.Book.entries g.B.Book.base _ _ _ _ c.requires.may.0 c.requires.may.1)
