use Rattle.std.proofs.Common.{◌≡◌, ◌++◌, Bor, IfNone, IfSome, List, ap, append-nil, false, subst, true, ◌∙◌}
use Rattle.account_core.specs.Ledger.{base, history}
use Rattle.resource_book.specs.RoomView.{RoomView}
use Rattle.spec_bookings.specs.BookedResources.{bookings_of}
use Rattle.spec_bookings.specs.Resources.{is_resource}
use Rattle.spec_history.specs.Base.{Base}
use Rattle.spec_history.specs.History.{changes_of}
use Rattle.spec_history.specs.declared.entry.Change.{Change}
use Rattle.spec_history.specs.declared.entry.Entry.{Entry}
use Rattle.account_core.proofs.account.Account.room_of.Goals as goal

pub returns-clause-none : goal.returns-clause-none
returns-clause-none c =
    let l = c.self.inside.ledger in
    let same = ap (λ ds. history l ++ ds) c.self.invariant.0 ∙ append-nil (history l) ∙ ap (λ (v : Base × List Entry). changes_of v.1) c.self.view_is in
    subst (λ (cs : List Change). IfNone c.room_of.result (is_resource cs c.args.calendar ≡ false)) same c.room_of.ensures.none

pub returns-clause-some : goal.returns-clause-some
returns-clause-some c =
    let l = c.self.inside.ledger in
    let P = λ (v : Base × List Change). IfSome c.room_of.result (λ (room : Bor RoomView). (is_resource v.1 c.args.calendar ≡ true) × (room.now.bookings ≡ bookings_of v.0.zones v.1 c.args.calendar)) in
    let same = ap (λ ds. (base l, history l ++ ds)) c.self.invariant.0 ∙ ap (λ ds. (base l, ds)) (append-nil (history l)) ∙ ap (λ (v : Base × List Entry). (v.0, changes_of v.1)) c.self.view_is in
    subst P same c.room_of.ensures.some
