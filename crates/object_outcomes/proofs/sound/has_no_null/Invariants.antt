use Rattle.std.proofs.Common.{◌≡◌, drop, map, not}
use Rattle.std.specs.List.{list_all}
use Rattle.spec_json.specs.Parts.{is_null}
use Rattle.spec_json.specs.TreeData.{pair_of}
use Rattle.object_outcomes.proofs.sound.has_no_null.Given as goal

abbrev pub invariant-loop-member : goal.invariant-loop-member
invariant-loop-member l = list_all (λ p. not (is_null p.1)) (map pair_of (drop l.member-index l.members)) ≡ list_all (λ p. not (is_null p.1)) (map pair_of l.members)
