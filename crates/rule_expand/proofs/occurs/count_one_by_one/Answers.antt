-- Why the matching days are counted.
use Rattle.std.proofs.Common.{◌≡◌, ◌+◌, arith, sym, FitsSigned, w64, rules, pos, ◌+ℤ◌}
use Rattle.std.proofs.lemmas.Int.{to_z-of_z}
use Rattle.jiff_core.proofs.SignedLemmas.{signed_arith}
use Rattle.spec_series.specs.RuleSets.{day_matches}
use Rattle.rule_expand.proofs.Cycle.{count_days-none, count_found, count_missed}
use Rattle.rule_expand.proofs.occurs.count_one_by_one.Goals as goal
use Rattle.rule_expand.proofs.occurs.count_one_by_one.Goals.{then-matches, else-matches}

pub loop-k-init : goal.loop-k-init
loop-k-init c =
    let f : FitsSigned w64 c.args.first = search rules in
    let e = simp to_z-of_z at c.with_date-at.ensures in
    simp to_z-of_z (record { at = omega (arith, signed_arith, e); value = sym (count_days-none (day_matches c.args.rule.now) c.args.first); bound = omega arith })

pub loop-k-preserved : goal.loop-k-preserved
loop-k-preserved c =
    let f : FitsSigned w64 c.args.first = search rules in
    let d : FitsSigned w64 c.loop-k.at.day = search rules in
    let day = simp to_z-of_z at c.loop-k.invariant.at in
    let next = c.next-at.ensures in
    let later : c.next-at.result.day ≡ c.args.first +ℤ pos (c.loop-k.k + 1) = omega (arith, signed_arith, day, next) in
    let m = c.matches.ensures in
    let old = simp to_z-of_z at c.loop-k.invariant.value in
    let test = day_matches c.args.rule.now in
    elim c.if-matches.branch [
      | then-matches w ↦ record {
        at = simp to_z-of_z later;
        value = rw w.found-is (simp to_z-of_z (count_found test c.args.first c.loop-k.at.day c.loop-k.k c.loop-k.found c.matches.result day m w.if-matches.true old));
        bound = omega arith;
      }
      | else-matches w ↦ record {
        at = simp to_z-of_z later;
        value = rw w.found-is (simp to_z-of_z (count_missed test c.args.first c.loop-k.at.day c.loop-k.k c.loop-k.found c.matches.result day m w.if-matches.false old));
        bound = omega arith;
      }
    ]
