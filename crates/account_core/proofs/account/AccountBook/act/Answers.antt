use Rattle.std.proofs.Common.{IfOk, List, None, subst, sym}
use Rattle.account_core.specs.Ledger.{ledger_entries}
use Rattle.account_core.specs.Trails.{HasCopies}
use Rattle.cal_model.specs.Answer.{added, answer}
use Rattle.spec_books.specs.Acting.{Came}
use Rattle.spec_history.specs.Base.{Base}
use Rattle.spec_history.specs.declared.entry.Entry.{Entry}
use Rattle.account_core.proofs.account.AccountBook.act.Goals as goal

-- the trail goes on with what came
pub invariant_of-self : goal.invariant_of-self
invariant_of-self c = (
  c.answer.ensures.staged,
  subst (λ (b : Base). HasCopies b.zones c.answer.new.keeper (ledger_entries c.answer.new.ledger)) (sym c.answer.ensures.base) (c.answer.ensures.kept c.self.invariant.1),
)

pub returns-clause-came : goal.returns-clause-came
returns-clause-came c =
    subst (λ (v : Base × List Entry). IfOk c.answer.result (λ r. Came answer added None v.0 v.1 c.args.call.now (record { author = c.args.author; turn = c.args.turn; moment = c.args.moment }) r
    (ledger_entries c.answer.new.ledger))) c.self.view_is c.answer.ensures.came
