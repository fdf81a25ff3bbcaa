use Rattle.std.proofs.Common.{◌≡◌, List, rules, subst, sym, true}
use Rattle.spec_history.specs.declared.entry.Entry.{Entry}
use Rattle.spec_snapshots.proofs.SomeHistory.{kept_of_some}
use Rattle.spec_snapshots.specs.Kept.{IsKeptFrom, may_be_kept}
use Rattle.journal_keeper.proofs.loaded.some_history.Goals as goal

pub returns-clause-kept : goal.returns-clause-kept
returns-clause-kept c =
    let test : may_be_kept c.args.kept ≡ true = search rules in
    subst (λ (h : List Entry). IsKeptFrom h c.args.kept) (sym c.of-told.ensures) (kept_of_some c.args.kept test)
