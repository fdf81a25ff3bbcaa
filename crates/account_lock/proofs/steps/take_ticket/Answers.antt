use Rattle.std.proofs.Common.{rules}
use Rattle.account_lock.proofs.StepLemmas.{takes_ticket}
use Rattle.account_lock.proofs.steps.take_ticket.Goals as goal

pub fetch_add-requires : goal.fetch_add-requires
fetch_add-requires g c = (search rules, search rules, takes_ticket g.B.Book.entries g.B.Book.base _ _ _ _ _ c.requires.may.0 c.requires.may.1)
