use Rattle.std.proofs.Common.{◌≡◌, ℕ, IfOk, List, subst}
use Rattle.account_opening.proofs.RoomLemmas.{rooms_listed}
use Rattle.account_opening.proofs.again.AgainCalendarsView.resources.Goals as goal

pub returns : goal.returns
returns c = subst (λ (ns : List ℕ). IfOk c.calendars.result (λ v. v.items ≡ ns)) (rooms_listed _ _ _ c.args.self.now.booked) c.calendars.ensures
