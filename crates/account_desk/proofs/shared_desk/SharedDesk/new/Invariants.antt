use Rattle.std.proofs.Common.{◌≡◌, ◌≤◌, map, take}
use Rattle.spec_history.specs.MostTurns.{most_turns}
use Rattle.account_desk.specs.SharedDesk.{greatest_turn}
use Rattle.account_desk.proofs.shared_desk.SharedDesk.new.Given as goal

abbrev pub invariant-loop-pass : goal.invariant-loop-pass
invariant-loop-pass g l = record {
  greatest : l.turns ≡ greatest_turn (take l.pass-index (map g.L.AccountLock.state l.pass-items));
  few : l.turns ≤ most_turns;
}
