use Rattle.std.proofs.Common.{◌≡◌, drop, length, nat_le}
use Rattle.std.specs.List.{list_any}
use Rattle.spec_bookings.specs.BookedResources.{other_bookings}
use Rattle.spec_bookings.specs.declared.limits.TheConstants.{MAX_BOOKINGS}
use Rattle.object_outcomes.proofs.against.is_any_full.Given as goal

abbrev pub invariant-loop-number : goal.invariant-loop-number
invariant-loop-number g l =
    list_any (λ n. nat_le MAX_BOOKINGS (length (other_bookings (g.V.CalendarsView.base l.view).zones (g.V.CalendarsView.changes l.view) l.event n))) (drop l.number-index l.resources)
    ≡ list_any (λ n. nat_le MAX_BOOKINGS (length (other_bookings (g.V.CalendarsView.base l.view).zones (g.V.CalendarsView.changes l.view) l.event n))) l.resources
