use Rattle.std.proofs.Common.{◌≡◌, All, flat_map, map, take}
use Rattle.account_store.specs.Store.{entries}
use Rattle.event_store.specs.StoredEvents.{HasItsSeries}
use Rattle.spec_history.specs.History.{changes_of, live_object, some_object}
use Rattle.spec_history.specs.declared.entry.Kind.TheVariants.{Event}
use Rattle.event_store.proofs.events.StoredEvents.live.Given as goal

abbrev pub invariant-loop-id : goal.invariant-loop-id
invariant-loop-id l = record {
  objects : map (λ e. e.object.now) l.live.items ≡ flat_map (λ id. some_object (live_object (changes_of (entries l.self.store.now)) Event id)) (take l.id-index l.id-items);
  series : All (HasItsSeries l.self.zones.now) l.live.items;
}
