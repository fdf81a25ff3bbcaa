-- Why not both keep where no bit is met.
use Rattle.std.proofs.Common.{arith, pos, ◌+ℤ◌, ◌-ℤ◌, FitsSigned, w64}
use Rattle.std.proofs.lemmas.Int.{to_z-of_z}
use Rattle.residue_clash.proofs.Maps.{unmet_by_map, unkept_unmet}
use Rattle.residue_clash.proofs.pairs.unmet.Goals as goal

pub returns-in-Some-clause-unmet : goal.returns-in-Some-clause-unmet
returns-in-Some-clause-unmet g c =
    let f : FitsSigned w64 c.args.n0 = c.ranges.n0 in
    let at = simp to_z-of_z at c.residue.ensures.value in
    let order = c.args.shifts.order_in in
    λ i o lt low high.
    unmet_by_map (g.A.Track.keeps c.args.ra.now) (g.B.Track.keeps c.args.rb.now)
    (g.met.A.Track.again c.args.ra.now 146097 (g.met.A.Track.whole c.args.ra.now)) (g.met.B.Track.again c.args.rb.now 146097 (g.met.B.Track.whole c.args.rb.now))
    c.in-Some.words.now c.map-in-Some.result (c.map.ensures c.in-Some.words c.in-Some.is) c.map-in-Some.ensures
    c.args.n0 c.residue.result i o at (omega (arith, lt, c.unmet_from.ensures.within)) (omega (arith, high, order.1)) (c.unmet_from.ensures.unmet o i low high lt)

pub returns-in-None-clause-unmet : goal.returns-in-None-clause-unmet
returns-in-None-clause-unmet g c =
    let f : FitsSigned w64 c.args.n0 = c.ranges.n0 in
    let shut = simp to_z-of_z at c.unkept.ensures.unkept in
    λ i o lt low high. unkept_unmet (g.A.Track.keeps c.args.ra.now (c.args.n0 +ℤ pos i)) (g.B.Track.keeps c.args.rb.now ((c.args.n0 +ℤ pos i) +ℤ (pos o -ℤ pos 8))) (shut i lt)
