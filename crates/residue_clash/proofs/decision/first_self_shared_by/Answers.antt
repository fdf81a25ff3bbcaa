-- Why what the tracks share is what the series shares with itself.
use Rattle.std.proofs.Common.{subst}
use Rattle.spec_series.specs.declared.series.Series.{Series}
use Rattle.spec_series.specs.Shared.{IsSelfShared, covers_twice}
use Rattle.rule_expand.specs.Least.{IsLeastOf}
use Rattle.residue_clash.proofs.Days.{self-least}
use Rattle.residue_clash.proofs.Covering.{self_shared_by_test}
use Rattle.residue_clash.proofs.FirstSecond.{first_is}
use Rattle.residue_clash.proofs.decision.first_self_shared_by.Goals as goal

pub returns-clause-least : goal.returns-clause-least
returns-clause-least c =
    let a = c.a.inside in
    rw c.near.ensures.same
    (subst (λ (s : Series). IsLeastOf (IsSelfShared s) c.shared.result) c.a.view_is
    (self-least a.series.now a.outline a.tracks c.a.invariant.outline c.a.invariant.tracks c.shared.result c.shared.ensures))

pub returns-clause-exact : goal.returns-clause-exact
returns-clause-exact c =
    let least = returns-clause-least c in
    first_is (covers_twice c.args.a.now) c.near.result (self_shared_by_test c.args.a.now c.near.result least) c.near.ensures.near
