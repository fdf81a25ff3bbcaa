use Rattle.std.proofs.Common.{rules}
use Rattle.account_lock.proofs.StepLemmas.{leaves}
use Rattle.account_lock.proofs.steps.give_turn.Goals as goal

pub fetch_add-requires : goal.fetch_add-requires
fetch_add-requires g c = let book = c.requires.may in (search rules, search rules, leaves g.B.Book.entries g.B.Book.base _ _ _ _ _ book.0 book.2.0 book.1 book.2.1 book.2.2)
