use Rattle.std.proofs.Common.{◌++◌, List, ap, append-nil, option_map, subst, ◌∙◌}
use Rattle.std.specs.Arc.{arc_value}
use Rattle.account_core.specs.Ledger.{history}
use Rattle.spec_history.specs.Base.{Base}
use Rattle.spec_history.specs.History.{changes_of}
use Rattle.spec_history.specs.declared.entry.Entry.{Entry}
use Rattle.spec_bookings.specs.BookedResources.{bookings_of}
use Rattle.spec_bookings.specs.Bookings.{without_booking}
use Rattle.spec_bookings.specs.Clashes.{IsClash, first_clash, second_of}
use Rattle.spec_bookings.specs.declared.booking.Booking.{Booking}
use Rattle.rule_expand.specs.Least.{IsLeastOf}
use Rattle.account_core.proofs.account.Account.first_clash.Goals as goal

pub returns-clause-exact : goal.returns-clause-exact
returns-clause-exact c =
    let l = c.self.inside.ledger in
    let same =
    ap (λ ds. bookings_of (arc_value l.zones) (history l ++ ds) c.args.calendar) c.self.invariant.0
    ∙ ap (λ ds. bookings_of (arc_value l.zones) ds c.args.calendar) (append-nil (history l))
    ∙ ap (λ (v : Base × List Entry). bookings_of v.0.zones (changes_of v.1) c.args.calendar) c.self.view_is in
    c.first_clash.ensures.exact ∙ ap (λ (bs : List Booking). first_clash (without_booking c.args.event bs) c.args.series.now) same

pub returns-clause-least : goal.returns-clause-least
returns-clause-least c =
    let l = c.self.inside.ledger in
    let same =
    ap (λ ds. bookings_of (arc_value l.zones) (history l ++ ds) c.args.calendar) c.self.invariant.0
    ∙ ap (λ ds. bookings_of (arc_value l.zones) ds c.args.calendar) (append-nil (history l))
    ∙ ap (λ (v : Base × List Entry). bookings_of v.0.zones (changes_of v.1) c.args.calendar) c.self.view_is in
    subst (λ (bs : List Booking). IsLeastOf (IsClash (without_booking c.args.event bs) c.args.series.now) (option_map second_of c.first_clash.result)) same c.first_clash.ensures.least
