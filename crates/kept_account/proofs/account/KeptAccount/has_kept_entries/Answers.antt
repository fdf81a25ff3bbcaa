use Rattle.std.proofs.Common.{List, subst}
use Rattle.journal_keeper.specs.Journals.{KeeperShown}
use Rattle.kept_account.proofs.Keeping.{leaves_sound}
use Rattle.kept_account.specs.HasKept.{LeavesSound}
use Rattle.spec_history.specs.Base.{Base}
use Rattle.spec_history.specs.declared.entry.Entry.{Entry}
use Rattle.kept_account.proofs.account.KeptAccount.has_kept_entries.Goals as goal

pub returns-clause-leaves : goal.returns-clause-leaves
returns-clause-leaves g c =
    let account = c.self.inside.account in
    subst (λ (v : Base × List Entry × KeeperShown). LeavesSound v.2.told v.0 v.1) c.self.view_is (leaves_sound account.0 account.1 (g.K.Keeper.shown c.self.inside.texts.keeper).told c.goes_on.ensures c.self.invariant.1)
