use Rattle.std.proofs.Common.{◌∙◌, ap, arith, map, take_all}
use Rattle.std.proofs.lemmas.Result.{IfOk-weaker}
use Rattle.event_store.specs.declared.events.StoredEvent.{StoredEvent}
use Rattle.availability_method.proofs.BusyLemmas.{taken_in_years, taken_told}
use Rattle.availability_method.proofs.events.busy_of.Goals as goal

pub returns-clause-periods : goal.returns-clause-periods
returns-clause-periods c = taken_told c.into_periods.result (λ ps. ps.items) c.args.window c.loop-event.busy.window c.loop-event.busy.spans.items c.args.zones.now c.args.floating.now _ _ c.loop-event.invariant.window
    (ap (map (λ (e : StoredEvent). e.object.now)) (take_all c.loop-event.event-index c.args.events.now (omega (arith, c.loop-event-test.false)))) c.requires.order c.into_periods.ensures.runs c.into_periods.ensures.busy c.loop-event.invariant.busy

pub returns-clause-years : goal.returns-clause-years
returns-clause-years c = IfOk-weaker c.into_periods.result _ _ (λ ps runs. taken_in_years c.args.window c.loop-event.busy.window ps.items c.loop-event.invariant.window c.requires.from c.requires.to runs) c.into_periods.ensures.runs
