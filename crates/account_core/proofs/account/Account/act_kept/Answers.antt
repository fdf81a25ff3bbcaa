use Rattle.std.proofs.Common.{IfOk, List, subst}
use Rattle.account_core.proofs.Trails.{has_nothing}
use Rattle.account_core.specs.Ledger.{base, ledger_entries}
use Rattle.cal_model.specs.Answer.{added, answer}
use Rattle.spec_books.specs.Acting.{Came}
use Rattle.spec_history.specs.Base.{Base}
use Rattle.spec_history.specs.declared.entry.Entry.{Entry}
use Rattle.account_core.proofs.account.Account.act_kept.Goals as goal

pub returns-clause-came : goal.returns-clause-came
returns-clause-came g c =
    subst (λ (v : Base × List Entry). IfOk c.answer.result (λ r. Came answer added g.K.EntryKeeper.unkept v.0 v.1 c.args.call.now c.args.stamp.now r (ledger_entries c.answer.new.ledger))) c.self.view_is
    c.answer.ensures.came

-- nothing is copied from here on
pub invariant_of-self : goal.invariant_of-self
invariant_of-self g c = (c.answer.ensures.staged, has_nothing (base c.answer.new.ledger).zones c.none.result (ledger_entries c.answer.new.ledger) c.none.ensures)
