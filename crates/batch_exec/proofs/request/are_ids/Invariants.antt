use Rattle.std.proofs.Common.{◌≡◌, drop, map}
use Rattle.std.specs.List.{list_all}
use Rattle.spec_batch.specs.Requests.{is_id_pair}
use Rattle.spec_json.specs.TreeData.{pair_of}
use Rattle.batch_exec.proofs.request.are_ids.Given as goal

abbrev pub invariant-loop-member : goal.invariant-loop-member
invariant-loop-member l = list_all is_id_pair (map pair_of (drop l.member-index l.members)) ≡ list_all is_id_pair (map pair_of l.members)
