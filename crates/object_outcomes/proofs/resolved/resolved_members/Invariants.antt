use Rattle.std.proofs.Common.{◌≡◌, map, take}
use Rattle.cal_model.specs.CreatedIds.{resolved_member_value}
use Rattle.spec_json.specs.TreeData.{pair_of}
use Rattle.object_outcomes.proofs.resolved.resolved_members.Given as goal

abbrev pub invariant-loop-member : goal.invariant-loop-member
invariant-loop-member l = map pair_of l.resolved.items ≡ map (λ p. (p.0, resolved_member_value l.created p)) (map pair_of (take l.member-index l.members))
