use Rattle.std.proofs.Common.{◌≡◌, map, take}
use Rattle.journal_keeper.specs.EntryText.{entry_text}
use Rattle.journal_keeper.specs.Journals.{AreEntriesOf, AreKeepable, labelled}
use Rattle.journal_keeper.proofs.texts.entry_texts.Given as goal

abbrev pub invariant-loop-entry : goal.invariant-loop-entry
invariant-loop-entry l = (l.texts.items ≡ labelled l.account (take l.entry-index l.entries)) × (AreKeepable (take l.entry-index l.entries) → AreEntriesOf (take l.entry-index l.entries) (map entry_text (take l.entry-index l.entries)))
