use Rattle.std.proofs.Common.{FitsSigned, w64, rules, ◌∙◌, ap}
use Rattle.std.proofs.lemmas.Int.{to_z-of_z}
use Rattle.jiff_tz.specs.PosixText.{tz_view}
use Rattle.spec_windows.specs.Clocks.{instant_in}
use Rattle.zone_instants.proofs.Bounds.{near_some}
use Rattle.zone_instants.proofs.instants.instant.Goals as goal

pub returns-clause-near : goal.returns-clause-near
returns-clause-near c =
    let f : FitsSigned w64 c.seconds.result = search rules in
    let e = simp to_z-of_z at c.instant_of_seconds.ensures in
    near_some c.args.rule.now c.args.wall c.instant_of_seconds.result (e ∙ ap (λ w. instant_in (tz_view c.args.rule.now) w) c.seconds.ensures)
