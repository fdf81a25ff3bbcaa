use Rattle.std.proofs.Common.{◌∙◌, ap₂, subst}
use Rattle.journal_keeper.proofs.ManyTexts.{labelled_step, written_step}
use Rattle.journal_keeper.specs.EntryText.{IsEntryText}
use Rattle.journal_keeper.proofs.texts.entry_texts.Goals as goal

pub loop-entry-preserved : goal.loop-entry-preserved
loop-entry-preserved c = (
  labelled_step c.args.account.now c.args.entries.now c.loop-entry.entry-index c.entry-item.result c.loop-entry.texts.items c.push.new.self.items c.new.result
      c.loop-entry-test.true c.entry-item.is c.loop-entry.invariant.0 c.in_ok-push.ensures.items
      (c.new.ensures ∙ ap₂ (λ a t. (a, t)) c.in_ok-copy.ensures c.in_ok-text.ensures.text),
  written_step c.args.entries.now c.loop-entry.entry-index c.entry-item.result c.loop-entry-test.true c.entry-item.is c.loop-entry.invariant.1
      (λ k. subst (IsEntryText c.entry-item.result) c.in_ok-text.ensures.text (c.in_ok-text.ensures.reads_back k)),
)
