-- Why the bits before a place are told, and those from there on clear.
use Rattle.std.proofs.Common.{ℕ, ◌∙◌, ap, arith}
use Rattle.std.proofs.lemmas.List.{length-replicate}
use Rattle.residue_solve.specs.ResidueMap.{as_bit}
use Rattle.residue_solve.proofs.Bits.{empty_bit, passed}
use Rattle.residue_solve.proofs.residue_map.fill.Goals as goal

pub loop-r-init : goal.loop-r-init
loop-r-init g c = record {
  length = rw c.requires (length-replicate {A = ℕ} 2283 0);
  done = λ k lt few. absurd (omega (arith, lt));
  rest = λ k le lt. rw c.requires (empty_bit k lt);
}

pub loop-r-preserved : goal.loop-r-preserved
loop-r-preserved g c =
    let inv = c.loop-r.invariant in
    let r = c.loop-r.r in
    let step = c.step_from-r.result in
    let put = c.put.ensures in
    let test = g.T.Residues.has c.args.days.now in
    let some = c.step_from-r.ensures.some in
    record {
      length = put.length;
      done = passed test c.loop-r.words _ r step inv.done inv.rest put.others (put.here ∙ ap as_bit c.is_in-is_in.ensures) c.step_from-r.ensures.absent;
      rest = λ k le lt. put.others k (λ e. omega (arith, e, le, some)) ∙ inv.rest k (omega (arith, le, some)) lt;
    }

pub returns : goal.returns
returns g c =
    let inv = c.loop-r.invariant in
    let end = c.loop-r-test.false in
    record { length = inv.length; bits = λ k lt. inv.done k (omega (arith, lt, end)) lt }
