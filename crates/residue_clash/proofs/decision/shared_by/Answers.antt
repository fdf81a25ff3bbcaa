-- Why what the tracks share is what the series share.
use Rattle.std.proofs.Common.{subst}
use Rattle.spec_series.specs.declared.series.Series.{Series}
use Rattle.spec_series.specs.Shared.{IsShared}
use Rattle.rule_expand.specs.Least.{IsLeastOf}
use Rattle.residue_clash.proofs.Days.{two-least}
use Rattle.residue_clash.proofs.decision.shared_by.Goals as goal

pub returns-clause-least : goal.returns-clause-least
returns-clause-least c =
    let a = c.a.inside in
    let b = c.b.inside in
    let least = two-least a.series.now a.outline a.tracks b.series.now b.outline b.tracks c.a.invariant.outline c.a.invariant.tracks c.b.invariant.outline c.b.invariant.tracks c.shared.result c.shared.ensures in
    rw c.near.ensures.same
    (subst (λ (s : Series). IsLeastOf (IsShared s c.args.b.now) c.shared.result) c.a.view_is
    (subst (λ (s : Series). IsLeastOf (IsShared a.series.now s) c.shared.result) c.b.view_is least))
