use Rattle.std.proofs.Common.{All, ap, flat_map, subst, sym, ◌∙◌}
use Rattle.std.proofs.lemmas.List.{take_all}
use Rattle.account_store.proofs.LiveLemmas.{objects_of_live}
use Rattle.account_store.specs.Store.{entries}
use Rattle.event_store.proofs.LiveLemmas.{all_more, objects_more}
use Rattle.event_store.specs.StoredEvents.{HasItsSeries}
use Rattle.event_store.specs.declared.events.StoredEvent.{StoredEvent}
use Rattle.spec_history.specs.History.{changes_of, live_object, some_object}
use Rattle.spec_history.specs.declared.entry.Kind.TheVariants.{Event}
use Rattle.event_store.proofs.events.StoredEvents.live.Goals as goal

pub loop-id-preserved : goal.loop-id-preserved
loop-id-preserved c =
    let e = c.args.self.now in
    record {
      objects = objects_more (λ (s : StoredEvent). s.object.now) (live_object (changes_of (entries e.store.now)) Event) c.deref-id-items.result.now c.loop-id.id-index c.loop-id.live.items
          c.push_some.new.list.items c.event.result c.loop-id-test.true c.loop-id.invariant.objects c.event.ensures.object c.in_ok-push_some.ensures;
      series = subst (All (HasItsSeries e.zones.now)) (sym c.in_ok-push_some.ensures) (all_more (HasItsSeries e.zones.now) c.loop-id.live.items c.event.result c.loop-id.invariant.series c.event.ensures.series);
    }

pub returns-clause-objects : goal.returns-clause-objects
returns-clause-objects c =
    let cs = changes_of (entries c.args.self.now.store.now) in
    let past = c.loop-id-test.false in
    c.loop-id.invariant.objects ∙ ap (flat_map (λ id. some_object (live_object cs Event id))) (take_all c.loop-id.id-index c.deref-id-items.result.now past ∙ c.deref-id-items.ensures.value ∙ c.in_ok-ids.ensures) ∙ objects_of_live cs Event
