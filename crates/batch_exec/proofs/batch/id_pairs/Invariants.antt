use Rattle.std.proofs.Common.{◌≡◌, ◌++◌, drop, map}
use Rattle.spec_batch.specs.Requests.{id_pair_of}
use Rattle.spec_json.specs.TreeData.{pair_of}
use Rattle.batch_exec.proofs.batch.id_pairs.Given as goal

abbrev pub invariant-loop-member : goal.invariant-loop-member
invariant-loop-member l = l.pairs.items ++ map id_pair_of (map pair_of (drop l.member-index l.members)) ≡ map id_pair_of (map pair_of l.members)
