use Rattle.std.proofs.Common.{◌≡◌, ◌+◌, ◌<◌, ◌^◌, ◌/◌, ◌%◌, ◌∷◌, [], length, decimal, arith, ap, ◌∙◌}
use Rattle.std.proofs.lemmas.Fmt.{decimal_digit, decimal_step, length-decimal-le}
use Rattle.std.proofs.lemmas.List.{length-append}
use Rattle.json_edge.proofs.length.digits.Goals as goal

pub loop-rest-preserved : goal.loop-rest-preserved
loop-rest-preserved c =
    let rest = c.loop-rest.rest in
    let small : rest < 2 ^ 64 = omega (arith, c.loop-rest.auto.rest-fits) in
    let one_less = ap length (decimal_step rest (omega (arith, c.loop-rest-test.true)) small) ∙ length-append (decimal (rest / 10)) ((48 + rest % 10) ∷ []) in
    record {
      counted = omega (arith, one_less, c.loop-rest.invariant.counted);
      few = omega (arith, c.loop-rest.invariant.few, c.loop-rest-test.true);
    }

pub returns : goal.returns
returns c =
    let last = ap length (decimal_digit c.loop-rest.rest (omega (arith, c.loop-rest-test.false))) in
    let count : c.loop-rest.count ≡ length (decimal c.args.number) = omega (arith, last, c.loop-rest.invariant.counted) in
    let few = length-decimal-le 20 c.args.number (omega arith) (omega (arith, c.ranges.number.fits)) (omega (arith, c.ranges.number.fits)) in
    record { count = count; most = omega (arith, count, few) }
