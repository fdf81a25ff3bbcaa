-- Why no day is kept that is passed over.
use Rattle.std.proofs.Common.{◌≡◌, ◌∙◌, ◌<◌, FitsSigned, arith, length, rules, sym, true, w64}
use Rattle.std.proofs.lemmas.Bool.Decides.{nat_tests}
use Rattle.std.proofs.lemmas.Int.{to_z-of_z}
use Rattle.rule_expand.specs.Repeats.{repeats_weekly}
use Rattle.rule_expand.proofs.UnaskedDays.{unasked_unkept}
use Rattle.rule_expand.proofs.unasked.days_unasked.Goals as goal

pub returns-clause-unkept : goal.returns-clause-unkept
returns-clause-unkept c =
    let f : FitsSigned w64 c.args.first = c.ranges.first in
    let g : FitsSigned w64 c.ahead-from.result = search rules in
    let from = simp to_z-of_z at c.ahead-from.ensures.value in
    let before = simp to_z-of_z at c.count_matching-before.ensures.value in
    let left = simp to_z-of_z at c.count_matching-left.ensures.value in
    let week = simp to_z-of_z at c.count_matching-week.ensures.value in
    let weekly : repeats_weekly c.args.rule.now ≡ true = sym c.is_weekly.ensures ∙ c.if-not-is_weekly.false in
    let some : 0 < length c.items.result.now = grind (arith, nat_tests, c.is_empty.ensures, c.if-is_empty.false) in
    λ k past lt.
    unasked_unkept c.args.rule.now c.args.first c.ahead-from.result c.args.count c.args.passed c.count_matching-before.result c.count_matching-left.result c.count_matching-week.result c.unasked_places-unasked.result weekly (rw c.items.ensures at some) c.requires.whole c.requires.passed from before left week c.unasked_places-unasked.ensures.none
    c.days_of_weeks.result k c.days_of_weeks.ensures.weeks (omega (arith, c.days_of_weeks.ensures.bound, c.requires.passed)) past lt
