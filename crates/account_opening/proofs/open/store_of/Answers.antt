use Rattle.std.proofs.Common.{arith}
use Rattle.std.proofs.lemmas.List.{length-map}
use Rattle.spec_history.specs.declared.entry.Entry.{Entry}
use Rattle.account_opening.proofs.open.store_of.Goals as goal

pub returns-in-Err-BadChange-clause-named : goal.returns-in-Err-BadChange-clause-named
returns-in-Err-BadChange-clause-named c = λ fits.
    let told = c.args.loaded.told.items in
    absurd (c.in-Err-BadChange.ensures.refused c.in-Err-BadChange.kind c.in-Err-BadChange.id c.in-Err-BadChange.field-0-is fits.numbered (omega (arith, fits.changes, length-map told (λ (e : Entry). e.change))))
