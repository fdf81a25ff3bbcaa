use Rattle.std.proofs.Common.{◌≡◌, ◌-◌, Some, map, length, sym, ap, ◌∙◌, arith}
use Rattle.std.specs.Cmp.Lexicographic.{slice_cmp}
use Rattle.std.specs.Ordering.{nat_cmp, is_lt}
use Rattle.spec_json.specs.TreeData.{pair_of}
use Rattle.json_edge.specs.FoundMembers.{is_next, last_key}
use Rattle.json_edge.proofs.Distinct.{last_at}
use Rattle.json_edge.proofs.object.is_new.Goals as goal

pub returns-in-Some : goal.returns-in-Some
returns-in-Some c =
    let ms = c.args.members.now in
    let member = c.in-Some.member.now in
    let some = c.in-Some.ensures.item.3.0 in
    let last : last_key (map pair_of ms) ≡ Some member.key = last_at ms member (length ms - 1) (omega (arith, some)) ∙ ap (λ m. Some m.key) (sym c.in-Some.ensures.item.1) in
    c.lt.ensures ∙ ap (λ k. is_lt (slice_cmp nat_cmp k c.args.key.now)) c.as_str.ensures ∙ ap (λ l. is_next l c.args.key.now) (sym last)
