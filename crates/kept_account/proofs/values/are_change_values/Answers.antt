use Rattle.std.proofs.Common.{sym, subst, take}
use Rattle.std.proofs.lemmas.List.{take_all, take_more}
use Rattle.std.proofs.lemmas.List.Elements.{All-push}
use Rattle.std.specs.Prelude.{All}
use Rattle.kept_account.specs.Values.{IsChangeValue}
use Rattle.kept_account.proofs.values.are_change_values.Goals as goal

pub loop-change-preserved : goal.loop-change-preserved
loop-change-preserved c =
    let one = All-push IsChangeValue (take c.loop-change.change-index c.args.changes.now) _ c.loop-change.invariant (subst IsChangeValue c.change-item.is c.is_object_fit.ensures) in
    subst (All IsChangeValue) (sym (take_more c.args.changes.now c.loop-change.change-index c.change-item.result c.loop-change-test.true)) one

pub returns : goal.returns
returns c = subst (All IsChangeValue) (take_all c.loop-change.change-index c.args.changes.now c.loop-change-test.false) c.loop-change.invariant
