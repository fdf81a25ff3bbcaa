use Rattle.account_lock.proofs.LawLemmas.{ticket_lock}
use Rattle.account_lock.proofs.ticket_lock.holds_between_steps.Goals as goal

pub returns : goal.returns
returns g c = record { law = λ opened s. ticket_lock g.B.Book.entries g.B.Book.base (g.B.Book.entries opened.value) (g.B.Book.base opened.value) s }
