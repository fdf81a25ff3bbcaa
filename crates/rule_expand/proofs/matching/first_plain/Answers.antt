-- Why the first match is the first after the other day.
use Rattle.std.proofs.Common.{FitsSigned, w64, rules, arith}
use Rattle.std.proofs.lemmas.Int.{to_z-of_z}
use Rattle.jiff_core.proofs.SignedLemmas.{signed_arith}
use Rattle.rule_expand.proofs.MatchingDays.{IsLow, match_none, never_match, some_match}
use Rattle.spec_series.specs.RuleSets.{day_matches}
use Rattle.rule_expand.proofs.matching.first_plain.Goals as goal

pub returns-then-from-last-clause-none : goal.returns-then-from-last-clause-none
returns-then-from-last-clause-none c =
    let f : FitsSigned w64 c.args.first = c.ranges.first in
    let a : FitsSigned w64 c.args.after = c.ranges.after in
    let r : FitsSigned w64 c.low_of-from.result = search rules in
    let l : FitsSigned w64 c.last_of-last.result = search rules in
    let low = simp to_z-of_z at c.low_of-from.ensures.low in
    let past = simp to_z-of_z at c.low_of-from.ensures.past in
    let least = simp to_z-of_z at c.low_of-from.ensures.least in
    let last = simp to_z-of_z at c.last_of-last.ensures in
    let test = simp to_z-of_z at c.if-from-last.true in
    let is : IsLow c.args.first c.args.after c.low_of-from.result = record { low = low; past = past; least = least } in
    λ t. never_match (day_matches c.args.rule.now) c.args.after c.args.first c.low_of-from.result c.args.more is (omega (arith, signed_arith, test, last))

pub returns-clause-none : goal.returns-clause-none
returns-clause-none c =
    let f : FitsSigned w64 c.args.first = c.ranges.first in
    let a : FitsSigned w64 c.args.after = c.ranges.after in
    let r : FitsSigned w64 c.low_of-from.result = search rules in
    let l : FitsSigned w64 c.last_of-last.result = search rules in
    let low = simp to_z-of_z at c.low_of-from.ensures.low in
    let past = simp to_z-of_z at c.low_of-from.ensures.past in
    let least = simp to_z-of_z at c.low_of-from.ensures.least in
    let last = simp to_z-of_z at c.last_of-last.ensures in
    let none = simp to_z-of_z at c.first_matching.ensures.none in
    let is : IsLow c.args.first c.args.after c.low_of-from.result = record { low = low; past = past; least = least } in
    λ t. match_none (day_matches c.args.rule.now) c.args.after c.args.first c.low_of-from.result c.args.more is (rw last at (none t))

pub returns-clause-some : goal.returns-clause-some
returns-clause-some c =
    let f : FitsSigned w64 c.args.first = c.ranges.first in
    let a : FitsSigned w64 c.args.after = c.ranges.after in
    let r : FitsSigned w64 c.low_of-from.result = search rules in
    let l : FitsSigned w64 c.last_of-last.result = search rules in
    let low = simp to_z-of_z at c.low_of-from.ensures.low in
    let past = simp to_z-of_z at c.low_of-from.ensures.past in
    let least = simp to_z-of_z at c.low_of-from.ensures.least in
    let last = simp to_z-of_z at c.last_of-last.ensures in
    let some = simp to_z-of_z at c.first_matching.ensures.some in
    let is : IsLow c.args.first c.args.after c.low_of-from.result = record { low = low; past = past; least = least } in
    some_match (day_matches c.args.rule.now) c.args.after c.args.first c.low_of-from.result c.args.more is c.first_matching.result (rw last at some)
