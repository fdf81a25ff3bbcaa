use Rattle.std.proofs.Common.{◌≡◌, drop, true}
use Rattle.std.specs.List.{list_all}
use Rattle.std.specs.Option.{option_map_or}
use Rattle.spec_json.specs.TreeData.{data_of}
use Rattle.spec_bookings.specs.BookingRules.{is_in_zone}
use Rattle.spec_bookings.specs.Resources.{resource_zone}
use Rattle.object_outcomes.proofs.booking_rules.is_in_all.Given as goal

abbrev pub invariant-loop-number : goal.invariant-loop-number
invariant-loop-number g l =
    list_all (λ n. option_map_or (is_in_zone (data_of l.event)) (resource_zone (g.V.CalendarsView.changes l.view) n) true) (drop l.number-index l.resources)
    ≡ list_all (λ n. option_map_or (is_in_zone (data_of l.event)) (resource_zone (g.V.CalendarsView.changes l.view) n) true) l.resources
