use Rattle.std.proofs.Common.{take}
use Rattle.std.specs.Prelude.{All}
use Rattle.kept_account.specs.Values.{IsEntryValue}
use Rattle.kept_account.proofs.values.are_entry_values.Given as goal

abbrev pub invariant-loop-entry : goal.invariant-loop-entry
invariant-loop-entry l = All IsEntryValue (take l.entry-index l.entries)
