use Rattle.listen_workers.proofs.JoinedLemmas as lemmas
use Rattle.listen_workers.proofs.laws.histories_are_of_calls.Goals as goal

pub returns : goal.returns
returns g c = lemmas.histories_are_of_calls g.B.Book.entries g.B.Book.base
