use Rattle.std.proofs.Common.{◌≡◌, drop, is_some, map}
use Rattle.std.specs.List.{list_all}
use Rattle.spec_events.specs.Events.{calendars_among}
use Rattle.spec_history.specs.History.{live_object}
use Rattle.spec_history.specs.declared.entry.Kind.TheVariants.{Calendar}
use Rattle.spec_json.specs.TreeData.{pair_of}
use Rattle.object_outcomes.proofs.event.are_live.Given as goal

abbrev pub invariant-loop-member : goal.invariant-loop-member
invariant-loop-member g l =
    list_all (λ n. is_some (live_object (g.V.CalendarsView.changes l.view) Calendar n)) (calendars_among (map pair_of (drop l.member-index l.ids)))
    ≡ list_all (λ n. is_some (live_object (g.V.CalendarsView.changes l.view) Calendar n)) (calendars_among (map pair_of l.ids))
