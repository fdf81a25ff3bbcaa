-- Why no item names a day before the nearer of the two.
use Rattle.std.proofs.Common.{arith, ◌+◌, ◌-◌}
use Rattle.std.proofs.lemmas.Bool.Decides.{nat_tests}
use Rattle.rule_expand.proofs.Items.{neither_place}
use Rattle.rule_expand.proofs.next_item.days_to_item.Goals as goal

pub returns-then-front-back-clause-none : goal.returns-then-front-back-clause-none
returns-then-front-back-clause-none c =
    λ j low high.
    neither_place (c.args.around.before + j + 1) (c.args.around.after + 1 - j) c.args.items.now (c.days_to_front-front.ensures.none j low high)
    (c.days_to_back-back.ensures.none j low (grind (arith, nat_tests, c.if-front-back.true)))

pub returns-else-front-back-clause-none : goal.returns-else-front-back-clause-none
returns-else-front-back-clause-none c =
    λ j low high.
    neither_place (c.args.around.before + j + 1) (c.args.around.after + 1 - j) c.args.items.now (c.days_to_front-front.ensures.none j low (grind (arith, nat_tests, c.if-front-back.false)))
    (c.days_to_back-back.ensures.none j low high)
