use Rattle.std.proofs.Common.{rules, ◌+◌, ◌<◌, ◌^◌, ◌∙◌, ap, length, length-append, arith}
use Rattle.account_lock.proofs.StepLemmas.{adds}
use Rattle.account_lock.proofs.steps.add_entries.Goals as goal

pub fetch_add-requires : goal.fetch_add-requires
fetch_add-requires g c =
    let seen = c.args.seat.now.me.0.seen in
    let all = ap length c.requires.grown ∙ length-append seen g.G.Growth.grown in
    let small = c.requires.small in
    let fits : length seen + length g.G.Growth.grown < 2 ^ 64 = omega arith in
    (search rules, search rules, adds g.B.Book.entries g.B.Book.base _ _ _ _ _ c.args.count g.G.Growth.grown c.requires.may.0 c.requires.count fits c.requires.may.1)
