-- What the account shows is what its ledger has.
use Rattle.std.proofs.Common.{◌≡◌, IfOk, List, subst}
use Rattle.slot_request.specs.Shown.{request_shown}
use Rattle.spec_history.specs.Base.{Base}
use Rattle.spec_history.specs.History.{changes_of}
use Rattle.spec_history.specs.declared.entry.Entry.{Entry}
use Rattle.spec_slots.specs.AccountSlots.{slot_in_account}
use Rattle.account_core.proofs.account.Account.find_slot.Goals as goal

pub returns-clause-found : goal.returns-clause-found
returns-clause-found c =
    subst (λ (v : Base × List Entry). IfOk c.find_slot.result (λ found. found ≡ slot_in_account v.0.zones (changes_of v.1) (request_shown c.args.asked.now))) c.self.view_is c.find_slot.ensures.found
