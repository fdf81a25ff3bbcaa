use Rattle.std.proofs.Common.{◌≡◌, length, take}
use Rattle.cal_model.specs.Answer.{entries_from}
use Rattle.account_core.proofs.trail.copies.Given as goal

abbrev pub invariant-loop-change : goal.invariant-loop-change
invariant-loop-change l = record {
  part : l.part ≡ l.change-index;
  upto : length (take l.change-index l.changes) ≡ l.change-index;
  copied : l.entries.items ≡ entries_from l.stamp 0 (take l.change-index l.changes);
}
