use Rattle.std.proofs.Common.{◌∙◌, sym}
use Rattle.account_opening.proofs.PutAgainLemmas.{calendars_are}
use Rattle.account_store.specs.Store.{entries}
use Rattle.spec_history.specs.History.{changes_of}
use Rattle.account_opening.proofs.again.AgainCalendarsView.calendar.Goals as goal

pub returns : goal.returns
returns c =
    let a = c.args.self.now in
    c.object.ensures ∙ sym (calendars_are (changes_of (entries a.store.now)) a.events c.args.id)
