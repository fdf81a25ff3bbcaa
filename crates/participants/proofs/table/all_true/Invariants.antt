use Rattle.std.proofs.Common.{◌≡◌, drop, map}
use Rattle.std.specs.List.{list_all}
use Rattle.spec_events.specs.Values.{is_true}
use Rattle.spec_json.specs.TreeData.{pair_of}
use Rattle.participants.proofs.table.all_true.Given as goal

abbrev pub invariant-loop-member : goal.invariant-loop-member
invariant-loop-member l = list_all (λ p. is_true p.1) (map pair_of (drop l.member-index l.members)) ≡ list_all (λ p. is_true p.1) (map pair_of l.members)
