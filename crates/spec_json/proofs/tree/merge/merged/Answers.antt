use Rattle.std.proofs.Common.{map, arith}
use Rattle.std.proofs.lemmas.Grind.{common_steps}
use Rattle.std.specs.Vec.Iter.{into_iter_items}
use Rattle.spec_json.proofs.MergeLemmas.{first_moves, later_rise, other_moves}
use Rattle.spec_json.specs.TreeData.{pair_of}
use Rattle.spec_json.proofs.tree.merge.merged.Goals as goal

pub loop-member-preserved : goal.loop-member-preserved
loop-member-preserved c =
    let moves = first_moves (pair_of c.in-Some.other) (map pair_of (into_iter_items c.next.new.self)) (pair_of c.in-Some-pop_below.member) (map pair_of c.loop-member.own.items) (map pair_of c.pop_below.new.members.items) c.loop-member.invariant.order c.in-Some-pop_below.ensures in
    record { whole = grind (arith, common_steps, moves); order = c.loop-member.invariant.order }

pub loop-other-preserved : goal.loop-other-preserved
loop-other-preserved c =
    let moves = other_moves (pair_of c.in-Some.other) (map pair_of (into_iter_items c.next.new.self)) (map pair_of c.loop-member.own.items) (map pair_of c.pop_below.new.members.items) c.loop-member.invariant.order c.in_default.ensures in
    record { whole = grind (arith, common_steps, moves); order = later_rise (pair_of c.in-Some.other) (map pair_of (into_iter_items c.next.new.self)) c.loop-member.invariant.order }
