use Rattle.std.proofs.Common.{◌≡◌}
use Rattle.sql_keeper.proofs.sql_keeper.SqlKeeper.learn.Given as goal

abbrev pub invariant-loop-text : goal.invariant-loop-text
invariant-loop-text g l = record {
  faults : l.self.faults ≡ l.fn.self.faults;
  damages : l.self.damages ≡ l.fn.self.damages;
}
