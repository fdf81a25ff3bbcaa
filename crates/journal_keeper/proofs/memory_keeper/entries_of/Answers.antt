use Rattle.std.proofs.Common.{◌∙◌, Vec, Global, take, ap, sym, subst}
use Rattle.journal_keeper.proofs.Loading.{damaged_here, step_other, step_own}
use Rattle.journal_keeper.specs.EntryText.{IsEntryText, IsNoEntryText}
use Rattle.journal_keeper.specs.Journals.{AreEntriesOf, texts_of}
use Rattle.spec_history.specs.declared.entry.Entry.{Entry}
use Rattle.journal_keeper.proofs.memory_keeper.entries_of.Goals as goal
use Rattle.journal_keeper.proofs.memory_keeper.entries_of.Goals.{then-is_of+in-Ok, else-is_of}

pub loop-text-preserved : goal.loop-text-preserved
loop-text-preserved c = elim c.if-is_of.branch [
  | then-is_of+in-Ok w ↦ let p = w.in-Ok.ensures.entry in step_own c.args.account.now c.args.texts.now c.loop-text.text-index c.text-item.result c.loop-text.list.items c.if-is_of.list.items p.0
      c.loop-text-test.true c.text-item.is (sym c.is_of.ensures ∙ w.if-is_of.true) c.loop-text.invariant (subst (IsEntryText p.0) w.text.ensures p.1)
      (ap (λ (v : Vec Entry Global). v.items) w.list-is ∙ p.2)
  | else-is_of w ↦ step_other c.args.account.now c.args.texts.now c.loop-text.text-index c.text-item.result c.if-is_of.list.items
      c.loop-text-test.true c.text-item.is (sym c.is_of.ensures ∙ w.if-is_of.false) (subst (λ (v : Vec Entry Global). AreEntriesOf v.items (texts_of c.args.account.now (take c.loop-text.text-index c.args.texts.now))) (sym w.list-is) c.loop-text.invariant)
]

pub returns-in-Err-clause-first : goal.returns-in-Err-clause-first
returns-in-Err-clause-first c = λ place text e.
    damaged_here c.args.account.now c.args.texts.now c.loop-text.text-index c.text-item.result c.loop-text.list.items place text.items
    c.loop-text-test.true c.text-item.is (sym c.is_of.ensures ∙ c.if-is_of.true) c.loop-text.invariant
    (subst IsNoEntryText c.text.ensures (c.in-Err.ensures.damaged place text e)) (c.in-Err.ensures.place place text e) (c.in-Err.ensures.text place text e ∙ c.text.ensures)

pub returns-in-Err-clause-damaged : goal.returns-in-Err-clause-damaged
returns-in-Err-clause-damaged c = λ place text e. subst IsNoEntryText (sym (c.in-Err.ensures.text place text e)) (c.in-Err.ensures.damaged place text e)
