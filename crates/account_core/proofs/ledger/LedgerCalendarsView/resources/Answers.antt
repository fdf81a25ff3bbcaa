use Rattle.std.proofs.Common.{◌≡◌, ℕ, IfOk, List, subst}
use Rattle.account_core.proofs.Rooms.{resources_are_listed}
use Rattle.account_core.proofs.ledger.LedgerCalendarsView.resources.Goals as goal

pub returns : goal.returns
returns c = subst (λ (ns : List ℕ). IfOk c.calendars.result (λ v. v.items ≡ ns)) (resources_are_listed _ _ _ c.args.self.now.rooms_now) c.calendars.ensures
