use Rattle.std.proofs.Common.{◌≡◌, drop, map}
use Rattle.spec_filters.specs.Members.{has_other_than}
use Rattle.spec_json.specs.TreeData.{pair_of}
use Rattle.query_filter.proofs.members.any_other_than.Given as goal

abbrev pub invariant-loop-member : goal.invariant-loop-member
invariant-loop-member l = has_other_than (map (λ n. n.now) l.names) (map pair_of (drop l.member-index l.members)) ≡ has_other_than (map (λ n. n.now) l.names) (map pair_of l.members)
