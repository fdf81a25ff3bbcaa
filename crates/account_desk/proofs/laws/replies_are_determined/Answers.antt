use Rattle.account_desk.proofs.ReplyLemmas.{replies_determined}
use Rattle.account_desk.proofs.laws.replies_are_determined.Goals as goal

pub returns : goal.returns
returns c = replies_determined
