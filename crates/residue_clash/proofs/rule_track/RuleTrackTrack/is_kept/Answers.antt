-- Why the map tells what the rule gives.
use Rattle.std.proofs.Common.{◌∙◌, refl, FitsSigned, w64}
use Rattle.std.proofs.lemmas.Int.{to_z-of_z}
use Rattle.residue_clash.specs.Again.{days_again}
use Rattle.residue_clash.specs.Kinds.{days_of}
use Rattle.residue_clash.proofs.Maps.{day_by_bit}
use Rattle.residue_clash.proofs.rule_track.RuleTrackTrack.is_kept.Goals as goal

pub returns-in-Some : goal.returns-in-Some
returns-in-Some c =
    let f : FitsSigned w64 c.args.day = c.ranges.day in
    let t = c.args.self.now in
    let at = simp to_z-of_z at c.residue.ensures.value in
    c.has_bit.ensures ∙ day_by_bit (days_of t.pushed t.rule.now) (days_again t.pushed t.rule.now 146097 refl) c.in-Some.words.now (t.map_in c.in-Some.words c.in-Some.is) c.args.day c.residue.result at c.residue.ensures.bound
