use Rattle.std.proofs.Common.{refl, subst}
use Rattle.event_model.proofs.OverrideLemmas.{refused_are_none}
use Rattle.spec_json.specs.TreeData.{data_of}
use Rattle.overrides.specs.Reports.{Reports}
use Rattle.object_outcomes.proofs.booking_rules.are_overrides_week_long.Goals as goal

pub returns-in-Err-BadOverride : goal.returns-in-Err-BadOverride
returns-in-Err-BadOverride c =
    let zones = c.args.zones.now in let d = data_of c.args.event.now in
    let refused = subst (λ error. Reports error zones d) c.in-Err-BadOverride.field-0-is c.in-Err-BadOverride.ensures.err in
    rw (refused_are_none zones d c.in-Err-BadOverride.field-0-0 refused) refl
