use Rattle.std.proofs.Common.{◌≡◌, All, drop, take}
use Rattle.spec_bookings.specs.BookedResources.{first_clash_in, other_bookings}
use Rattle.spec_bookings.specs.Clashes.{IsClear}
use Rattle.object_outcomes.proofs.against.first_clash.Given as goal

abbrev pub invariant-loop-number : goal.invariant-loop-number
invariant-loop-number g l = record {
  first : first_clash_in (g.V.CalendarsView.base l.view).zones (g.V.CalendarsView.changes l.view) l.event l.series (drop l.number-index l.resources)
      ≡ first_clash_in (g.V.CalendarsView.base l.view).zones (g.V.CalendarsView.changes l.view) l.event l.series l.resources;
  clear : All (λ n. IsClear (other_bookings (g.V.CalendarsView.base l.view).zones (g.V.CalendarsView.changes l.view) l.event n) l.series) (take l.number-index l.resources);
}
