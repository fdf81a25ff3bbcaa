-- Why the residues of one cycle are all, and later ones can be left.
use Rattle.std.proofs.Common.{rules, ◌≡◌, arith, pos, ◌+ℤ◌, ◌-ℤ◌, FitsSigned, w64}
use Rattle.std.proofs.lemmas.Int.{to_z-of_z}
use Rattle.residue_clash.specs.Tracks.{Gives}
use Rattle.residue_clash.proofs.Offsets.{pair-least, over-least, more-least, unmet_both}
use Rattle.residue_clash.proofs.pairs.least_by_days.Goals as goal

pub returns-then-is_over : goal.returns-then-is_over
returns-then-is_over g c =
    let f0 : FitsSigned w64 c.args.a.now.first = search rules in
    let f1 : FitsSigned w64 c.day_at-n0.result = search rules in
    let at = simp to_z-of_z at c.day_at-n0.ensures.value in
    let over = rw (at, c.last-last.ensures) at (simp to_z-of_z at (c.is_over.ensures c.if-is_over.true)) in
    let some = c.cycle_of-cycle.ensures.range.0 in
    pair-least c.args.same (Gives g.A.Track.keeps g.A.Track.phase g.A.Track.last_of) (Gives g.B.Track.keeps g.B.Track.phase g.B.Track.last_of) c.args.a.now c.args.ra.now c.args.b.now c.args.rb.now c.cycle_of-cycle.result (omega (arith, some)) (λ n given. given.later) c.loop-j.best
    (over-least c.args.same (Gives g.A.Track.keeps g.A.Track.phase g.A.Track.last_of) (Gives g.B.Track.keeps g.B.Track.phase g.B.Track.last_of) c.args.a.now c.args.ra.now c.args.b.now c.args.rb.now c.cycle_of-cycle.result (g.A.Track.last_of c.args.ra.now) (λ n given. given.up_to) c.loop-j.j c.loop-j.invariant.within c.loop-j.best over c.loop-j.invariant.least)

pub loop-j-preserved : goal.loop-j-preserved
loop-j-preserved g c =
    let f0 : FitsSigned w64 c.args.a.now.first = search rules in
    let f1 : FitsSigned w64 c.day_at-n0.result = search rules in
    let at = simp to_z-of_z at c.day_at-n0.ensures.value in
    let on = rw at at (simp to_z-of_z at c.meet_on.ensures) in
    let shut = rw at at (simp to_z-of_z at c.unmet.ensures.unmet) in
    let n = c.next_residue-j.ensures in
    record {
      within = n.within;
      least = rw c.lower_of-best.ensures (more-least c.args.same (Gives g.A.Track.keeps g.A.Track.phase g.A.Track.last_of) (Gives g.B.Track.keeps g.B.Track.phase g.B.Track.last_of) c.args.a.now c.args.ra.now c.args.b.now c.args.rb.now c.cycle_of-cycle.result
          c.loop-j.j c.next_residue-j.result c.unmet.result n.later n.near
          (λ i o lt few x m.
          let overlaps = rw (← c.seconds_of.ensures, ← c.seconds_of-2.ensures) at m.first.overlaps in
          let over = c.shifts_of-shifts.ensures o overlaps in
          let at_shift = c.other_shifts-shifts.ensures o m.first.other over.0 over.1 in
          unmet_both c.args.same g.A.Track.keeps g.A.Track.phase g.A.Track.last_of g.B.Track.keeps g.B.Track.phase g.B.Track.last_of c.args.a.now c.args.ra.now c.args.b.now c.args.rb.now c.cycle_of-cycle.result (((c.args.a.now.first +ℤ pos 1) +ℤ pos c.loop-j.j) +ℤ pos i) (pos o -ℤ pos 8)
          (g.met.A.Track.again c.args.ra.now c.cycle_of-cycle.result c.cycle_of-cycle.ensures.repeats_a) (g.met.B.Track.again c.args.rb.now c.cycle_of-cycle.result c.cycle_of-cycle.ensures.repeats_b) (shut i o lt at_shift.0 at_shift.1) x m)
          c.loop-j.best c.meet_on.result c.loop-j.invariant.least on);
    }

pub returns : goal.returns
returns g c =
    let some = c.cycle_of-cycle.ensures.range.0 in
    let within = c.loop-j.invariant.within in
    let e : c.loop-j.j ≡ c.cycle_of-cycle.result = omega (arith, within, c.loop-j-test.false) in
    pair-least c.args.same (Gives g.A.Track.keeps g.A.Track.phase g.A.Track.last_of) (Gives g.B.Track.keeps g.B.Track.phase g.B.Track.last_of) c.args.a.now c.args.ra.now c.args.b.now c.args.rb.now c.cycle_of-cycle.result (omega (arith, some)) (λ n given. given.later) c.loop-j.best (rw e at c.loop-j.invariant.least)
