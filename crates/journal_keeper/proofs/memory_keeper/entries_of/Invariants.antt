use Rattle.std.proofs.Common.{take}
use Rattle.journal_keeper.specs.Journals.{AreEntriesOf, texts_of}
use Rattle.journal_keeper.proofs.memory_keeper.entries_of.Given as goal

abbrev pub invariant-loop-text : goal.invariant-loop-text
invariant-loop-text l = AreEntriesOf l.list.items (texts_of l.account (take l.text-index l.texts))
