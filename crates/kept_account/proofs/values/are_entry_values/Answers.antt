use Rattle.std.proofs.Common.{sym, subst, take}
use Rattle.std.proofs.lemmas.List.{take_all, take_more}
use Rattle.std.proofs.lemmas.List.Elements.{All-push}
use Rattle.std.specs.Prelude.{All}
use Rattle.kept_account.specs.Values.{IsEntryValue}
use Rattle.kept_account.proofs.values.are_entry_values.Goals as goal

pub loop-entry-preserved : goal.loop-entry-preserved
loop-entry-preserved c =
    let one = All-push IsEntryValue (take c.loop-entry.entry-index c.args.entries.now) _ c.loop-entry.invariant (subst IsEntryValue c.entry-item.is c.is_entry_value.ensures) in
    subst (All IsEntryValue) (sym (take_more c.args.entries.now c.loop-entry.entry-index c.entry-item.result c.loop-entry-test.true)) one

pub returns : goal.returns
returns c = subst (All IsEntryValue) (take_all c.loop-entry.entry-index c.args.entries.now c.loop-entry-test.false) c.loop-entry.invariant
