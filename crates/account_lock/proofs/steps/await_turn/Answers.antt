use Rattle.std.proofs.Common.{rules, ◌∙◌, ap}
use Rattle.account_lock.proofs.StepLemmas.{looks}
use Rattle.account_lock.proofs.steps.await_turn.Goals as goal

pub load-served-requires : goal.load-served-requires
load-served-requires g c = (search rules, search rules, looks g.B.Book.entries g.B.Book.base _ _ _ _ _ (ap (λ m. m.0.phase) c.loop.invariant.2 ∙ c.requires.may))
