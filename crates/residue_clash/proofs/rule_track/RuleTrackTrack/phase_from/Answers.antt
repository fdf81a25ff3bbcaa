-- Why the congruence for the day that is to be in phase is that of the day.
use Rattle.std.proofs.Common.{◌≡◌, ◌∙◌, ◌*◌, ◌↔◌, sym, ap, subst, true, ℤ, pos, ◌+ℤ◌, rules, FitsSigned, w64}
use Rattle.std.proofs.lemmas.Int.{to_z-of_z}
use Rattle.spec_series.specs.Periods.{is_in_phase}
use Rattle.residue_solve.specs.Cong.{Solves}
use Rattle.residue_clash.proofs.Phases.{phase_later}
use Rattle.residue_clash.proofs.rule_track.RuleTrackTrack.phase_from.Goals as goal

pub returns-clause-solves : goal.returns-clause-solves
returns-clause-solves c =
    let f : FitsSigned w64 c.args.day = c.ranges.day in
    let g : FitsSigned w64 c.args.self.now.first = search rules in
    let h : FitsSigned w64 c.phase_day.result = search rules in
    let value = simp to_z-of_z at c.phase_day.ensures.value in
    let solves = simp to_z-of_z at c.phase_of.ensures.solves in
    λ t.
    let k = t * c.args.cycle in
    subst (λ (x : ℤ). Solves c.phase_of.result (pos t) ↔ (is_in_phase c.args.self.now.rule.now c.args.self.now.first x ≡ true))
    (ap (λ x. x +ℤ pos k) value ∙ sym (phase_later c.args.self.now.pushed c.args.day k)) (solves t)
