use Rattle.std.proofs.Common.{◌≡◌, All, IsSome, false, length, string_bytes}
use Rattle.row_table.proofs.trial.others_of.Given as goal

abbrev pub invariant-loop-row : goal.invariant-loop-row
invariant-loop-row g l = (length l.others.items ≡ l.row-index) × (g.T.Trial.knows (string_bytes l.table.name) ≡ false → All (λ other. IsSome other) l.others.items)
