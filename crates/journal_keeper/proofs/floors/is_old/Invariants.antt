use Rattle.std.proofs.Common.{◌≡◌, ◌≤◌, ◌+◌, drop}
use Rattle.json_edge.specs.Lengths.{saturated}
use Rattle.spec_history.specs.History.{changes_of, count_of_kind}
use Rattle.spec_sizes.specs.Sizes.{of_kind, size_of}
use Rattle.journal_keeper.proofs.floors.is_old.Given as goal

abbrev pub invariant-loop-entry : goal.invariant-loop-entry
invariant-loop-entry l = record {
  few : l.count ≤ l.entry-index;
  counted : l.count + count_of_kind (changes_of (drop l.entry-index l.behind)) l.kind ≡ count_of_kind (changes_of l.behind) l.kind;
  weighed : saturated (l.bytes + size_of (of_kind l.kind (changes_of (drop l.entry-index l.behind)))) ≡ saturated (size_of (of_kind l.kind (changes_of l.behind)));
}
