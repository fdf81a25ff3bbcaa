use Rattle.std.proofs.Common.{◌≡◌, Some}
use Rattle.kept_run.proofs.StartLemmas.{tells_open}
use Rattle.kept_run.specs.Opened.{foreign_place}
use Rattle.kept_run.proofs.accounts.account_at.Goals as goal

pub returns-in-Some : goal.returns-in-Some
returns-in-Some c =
    let told = c.args.loaded.told.items in
    let foreign : foreign_place told ≡ Some c.in-Some.place = c.in-Some.ensures.some told c.requires in
    tells_open c.args.site.now c.args.id.now told c.in-Some.place foreign c.foreign_journal.result c.foreign_journal.ensures
