use Rattle.std.proofs.Common.{IfOk, List, subst}
use Rattle.account_core.specs.Kept.{SetCame}
use Rattle.account_core.specs.Ledger.{base, ledger_entries}
use Rattle.spec_history.specs.Base.{Base}
use Rattle.spec_history.specs.declared.entry.Entry.{Entry}
use Rattle.account_core.proofs.set.set.Goals as goal

-- the look-up leaves the base and the entries as they are
pub returns-clause-came : goal.returns-clause-came
returns-clause-came g c =
    subst (λ (b : Base). IfOk c.carry_out.result (λ r. SetCame g.K.EntryKeeper.unkept c.args.created.now b (ledger_entries c.args.ledger.now) c.args.arguments.now c.args.stamp.now r (ledger_entries c.carry_out.new.ledger)))
    c.look_up.ensures.base
    (subst (λ (es : List Entry). IfOk c.carry_out.result (λ r. SetCame g.K.EntryKeeper.unkept c.args.created.now (base c.look_up.new.ledger) es c.args.arguments.now c.args.stamp.now r (ledger_entries c.carry_out.new.ledger)))
    c.look_up.ensures.entries c.carry_out.ensures.came)
