use Rattle.std.proofs.Common.{◌∙◌, ap, length, nat_le, sym}
use Rattle.spec_bookings.specs.BookedResources.{other_bookings}
use Rattle.spec_bookings.specs.declared.limits.TheConstants.{MAX_BOOKINGS}
use Rattle.object_outcomes.proofs.BookingLemmas.{is_found, is_passed}
use Rattle.object_outcomes.proofs.against.is_any_full.Goals as goal

pub returns-then-is_full : goal.returns-then-is_full
returns-then-is_full g c =
    is_found (λ n. nat_le MAX_BOOKINGS (length (other_bookings (g.V.CalendarsView.base c.args.view.now).zones (g.V.CalendarsView.changes c.args.view.now) c.args.event n)))
    c.args.resources.now c.loop-number.number-index c.loop-number-test.true
    (sym c.if-is_full.true ∙ c.is_full.ensures ∙ ap (nat_le MAX_BOOKINGS) c.bookings.ensures) ∙ c.loop-number.invariant

pub loop-number-preserved : goal.loop-number-preserved
loop-number-preserved g c =
    is_passed (λ n. nat_le MAX_BOOKINGS (length (other_bookings (g.V.CalendarsView.base c.args.view.now).zones (g.V.CalendarsView.changes c.args.view.now) c.args.event n)))
    c.args.resources.now c.loop-number.number-index c.loop-number-test.true
    (sym c.if-is_full.false ∙ c.is_full.ensures ∙ ap (nat_le MAX_BOOKINGS) c.bookings.ensures) ∙ c.loop-number.invariant
