-- Each division keeps the common divisors and what the multipliers leave.
use Rattle.std.proofs.Common.{◌<◌, pos, negsuc, arith, mod-lt}
use Rattle.std.proofs.Math.Nat.{le_of_lt}
use Rattle.std.proofs.lemmas.Int.{ints}
use Rattle.std.proofs.lemmas.Nat.Gcd.{IsGcd-from_zero, IsGcd-from_mod}
use Rattle.residue_solve.proofs.EuclidLemmas.{leaves_more}
use Rattle.residue_solve.proofs.euclid.extended_gcd.Goals as goal

pub loop-rest-init : goal.loop-rest-init
loop-rest-init c = record {
  gcd_above = c.requires.some;
  gcd_small = omega arith;
  rest_small = omega arith;
  multiplier_small = omega arith;
  next_small = omega arith;
  multiplier_leaves = (negsuc 0, omega (arith, ints));
  next_leaves = (pos 0, omega (arith, ints));
  same_divisor = λ g h. h;
}

pub loop-rest-preserved : goal.loop-rest-preserved
loop-rest-preserved c =
    let i = c.loop-rest.invariant in
    let some : 0 < c.loop-rest.rest = omega arith in
    let d = c.divided-times.ensures in
    rw (d.remainder, c.divided-after.ensures.remainder, d.quotient) record {
      gcd_above = some;
      gcd_small = i.rest_small;
      rest_small = omega (arith, mod-lt c.loop-rest.gcd some);
      multiplier_small = i.next_small;
      next_small = le_of_lt (mod-lt _ c.requires.some);
      multiplier_leaves = i.next_leaves;
      next_leaves = leaves_more c.args.n c.args.a _ _ _ _ i.next_small i.multiplier_leaves i.next_leaves;
      same_divisor = λ g h. i.same_divisor g (IsGcd-from_mod _ _ g h);
    }

pub returns-clause-divides : goal.returns-clause-divides
returns-clause-divides c =
    let i = c.loop-rest.invariant in
    record {
      greatest = i.same_divisor c.loop-rest.gcd (IsGcd-from_zero _ _ (omega arith));
      leaves = i.multiplier_leaves;
      small = i.multiplier_small;
    }
