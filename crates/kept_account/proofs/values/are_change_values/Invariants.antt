use Rattle.std.proofs.Common.{take}
use Rattle.std.specs.Prelude.{All}
use Rattle.kept_account.specs.Values.{IsChangeValue}
use Rattle.kept_account.proofs.values.are_change_values.Given as goal

abbrev pub invariant-loop-change : goal.invariant-loop-change
invariant-loop-change l = All IsChangeValue (take l.change-index l.changes)
