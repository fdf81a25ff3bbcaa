use Rattle.std.proofs.Common.{◌≡◌, map, length, true, ◌-◌, ◌+◌, arith, refl, get_or}
use Rattle.std.proofs.lemmas.Grind.{common_steps}
use Rattle.std.specs.Cmp.Lexicographic.{slice_cmp}
use Rattle.std.specs.Ordering.{nat_cmp, is_lt}
use Rattle.patch_object.proofs.cursor.pop_from.Goals as goal
use Rattle.patch_object.proofs.cursor.pop_from.Goals.{in-Some, in-None}
use Rattle.spec_json.specs.TreeData.{pair_of}
use Rattle.patch_object.proofs.CursorLemmas.{all_below_last, all_below_none}
use Rattle.patch_object.specs.Cursor.{all_below}

pub returns-else-is_from : goal.returns-else-is_from
returns-else-is_from c =
    let below : all_below c.args.key.now (map pair_of c.args.members.now.items) ≡ true = elim c.match-last.branch [
      | in-Some w ↦
          let last : is_lt (slice_cmp nat_cmp (get_or c.args.members.now.items (length c.args.members.now.items - 1) w.in-Some.member.now).key c.args.key.now) ≡ true = grind (arith, common_steps, w.in-Some.ensures.item, w.ge-is_from.ensures) in
          let long : length c.args.members.now.items - 1 + 1 ≡ length c.args.members.now.items = grind (arith, common_steps, w.in-Some.ensures.item) in
          all_below_last c.args.key.now c.args.members.now.items (length c.args.members.now.items - 1) w.in-Some.member.now long c.requires last
      | in-None w ↦ all_below_none c.args.key.now c.args.members.now.items (grind (arith, common_steps, w.in-None.ensures.item))
    ] in
    (below, refl)
