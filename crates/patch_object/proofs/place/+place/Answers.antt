use Rattle.std.proofs.Common.{◌≡◌, ◌+◌, ◌-◌, ◌≤◌, ℕ, map, true, take, drop, arith, sym, ◌∙◌, subst}
use Rattle.std.proofs.lemmas.List.{take_rest}
use Rattle.patch_object.proofs.ChangeLemmas.{longest_drop, longest_take, groups_on}
use Rattle.patch_object.specs.Edits.{change_from, is_group, longest}
use Rattle.patch_object.proofs.place.+place.Goals as goal

pub place_in-place_group-requires : goal.place_in-place_group-requires
place_in-place_group-requires t c =
    let i = c.args.i in
    let left = drop c.loop-done.done c.args.edits.now in
    let n : c.loop-done.done + c.group_len-n.result - c.loop-done.done ≡ c.group_len-n.result = omega arith in
    let shorter : longest (take (c.loop-done.done + c.group_len-n.result - c.loop-done.done) left) ≤ longest c.args.edits.now = omega (arith, longest_take left (c.loop-done.done + c.group_len-n.result - c.loop-done.done), longest_drop c.args.edits.now c.loop-done.done) in
    let group : is_group (map (change_from i) (take c.group_len-n.result left)) ≡ true = rw take_rest at c.group_len-n.ensures.group in
    (omega arith, subst (λ (m : ℕ). is_group (map (change_from i) (take m left)) ≡ true) (sym n) group)

pub place_in-loop-done-preserved : goal.place_in-loop-done-preserved
place_in-loop-done-preserved t c =
    let i = c.args.i in
    let left = drop c.loop-done.done c.args.edits.now in
    let n : c.loop-done.done + c.group_len-n.result - c.loop-done.done ≡ c.group_len-n.result = omega arith in
    let made = c.in_ok-cursor.ensures in
    record {
      placed = rw made (rw n (groups_on c.args.edits.now i c.loop-done.done c.group_len-n.result c.loop-done.cursor)) ∙ c.loop-done.invariant.placed;
      bound = omega arith;
    }
