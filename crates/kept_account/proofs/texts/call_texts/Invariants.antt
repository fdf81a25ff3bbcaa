use Rattle.std.proofs.Common.{◌≡◌, length, map, take}
use Rattle.cal_model.specs.Answer.{entries_from}
use Rattle.journal_keeper.specs.EntryText.{entry_text}
use Rattle.journal_keeper.specs.Journals.{AreEntriesOf, AreKeepable, labelled}
use Rattle.kept_account.proofs.texts.call_texts.Given as goal

abbrev pub invariant-loop-change : goal.invariant-loop-change
invariant-loop-change l = record {
  part : l.part ≡ l.change-index;
  upto : length (take l.change-index l.changes) ≡ l.change-index;
  texts : l.texts.items ≡ labelled l.account (entries_from l.stamp 0 (take l.change-index l.changes));
  back : AreKeepable (entries_from l.stamp 0 (take l.change-index l.changes)) → AreEntriesOf (entries_from l.stamp 0 (take l.change-index l.changes)) (map entry_text (entries_from l.stamp 0 (take l.change-index l.changes)));
}
