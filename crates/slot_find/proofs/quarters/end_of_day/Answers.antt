-- The seconds before the midnight behind a wall second are of its day.
use Rattle.std.proofs.Common.{sym, ◌∙◌}
use Rattle.slot_find.proofs.QuarterLemmas.{before_is, behind_is, ends_at, ends_by}
use Rattle.std.proofs.Common.{subst, ◌<ℤ◌, ℤ}
use Rattle.slot_find.proofs.quarters.end_of_day.Goals as goal

pub returns-then-is_before : goal.returns-then-is_before
returns-then-is_before c =
    ends_by c.args.at c.args.to c.requires.order
    (subst (λ (z : ℤ). c.args.to <ℤ z) c.midnight_behind-midnight.ensures (before_is c.args.to c.midnight_behind-midnight.result (sym c.is_before.ensures ∙ c.if-is_before.true)))

pub returns-else-is_before : goal.returns-else-is_before
returns-else-is_before c =
    ends_at c.args.at c.args.to c.midnight_behind-midnight.result c.midnight_behind-midnight.ensures (behind_is c.args.to c.midnight_behind-midnight.result (sym c.is_before.ensures ∙ c.if-is_before.false))
