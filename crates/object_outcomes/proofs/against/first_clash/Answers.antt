use Rattle.std.proofs.Common.{◌∙◌}
use Rattle.std.proofs.lemmas.List.Elements.{All-more}
use Rattle.std.proofs.lemmas.List.{take_all}
use Rattle.spec_bookings.specs.BookedResources.{other_bookings}
use Rattle.spec_bookings.specs.Clashes.{IsClear}
use Rattle.object_outcomes.proofs.BookingLemmas.{passed_over}
use Rattle.object_outcomes.proofs.against.first_clash.Goals as goal

pub loop-number-preserved : goal.loop-number-preserved
loop-number-preserved g c = record {
  first = passed_over (g.V.CalendarsView.base c.args.view.now).zones (g.V.CalendarsView.changes c.args.view.now) c.args.event c.args.series.now
      c.args.resources.now c.loop-number.number-index c.loop-number-test.true c.in_default.ensures.exact ∙ c.loop-number.invariant.first;
  clear = All-more (λ n. IsClear (other_bookings (g.V.CalendarsView.base c.args.view.now).zones (g.V.CalendarsView.changes c.args.view.now) c.args.event n) c.args.series.now)
      c.args.resources.now c.loop-number.number-index 0 c.loop-number-test.true c.loop-number.invariant.clear c.in_default.ensures.clear;
}

pub returns-clause-clear : goal.returns-clause-clear
returns-clause-clear g c = rw (take_all c.loop-number.number-index c.args.resources.now c.loop-number-test.false) at c.loop-number.invariant.clear
