use Rattle.account_lock.proofs.LawLemmas.{is_reached}
use Rattle.account_lock.proofs.ticket_lock.is_reached_by_steps.Goals as goal

pub returns : goal.returns
returns g c = record { law = λ opened s. is_reached g.B.Book.entries g.B.Book.base (g.B.Book.entries opened.value) (g.B.Book.base opened.value) s }
