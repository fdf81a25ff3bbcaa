use Rattle.std.proofs.Common.{◌≡◌, drop, map}
use Rattle.spec_filters.specs.Members.{has_bad_member}
use Rattle.spec_json.specs.TreeData.{pair_of}
use Rattle.query_filter.proofs.members.any_fails.Given as goal

abbrev pub invariant-loop-member : goal.invariant-loop-member
invariant-loop-member l = has_bad_member (map pair_of (drop l.member-index l.members)) ≡ has_bad_member (map pair_of l.members)
