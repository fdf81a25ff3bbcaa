use Rattle.std.proofs.Common.{◌≡◌, false, ◌∙◌, ◌+◌, [], List, arith, ap, get_or, length, subst, sym, ℕ}
use Rattle.std.specs.Option.{option_copied}
use Rattle.std.specs.List.{slice_get}
use Rattle.account_opening.proofs.JudgeLemmas.{all_events, all_sound, at_place, object_there, sound_more, unsound_event}
use Rattle.account_opening.specs.Again.{again_at}
use Rattle.account_opening.specs.Opening.{FitsButForObjects}
use Rattle.account_rooms.specs.Rooms.{AreRooms}
use Rattle.account_store.specs.Earlier.{live_ids}
use Rattle.account_store.specs.Store.{entries}
use Rattle.account_store.specs.declared.store.Store.{Store}
use Rattle.cal_model.specs.SoundObjects.{is_sound_object}
use Rattle.spec_history.specs.History.{changes_of, live_object}
use Rattle.spec_history.specs.declared.entry.Kind.TheVariants.{Event}
use Rattle.spec_json.specs.TreeData.{data_of}
use Rattle.spec_site.specs.TimeZones.{ZoneText}
use Rattle.spec_snapshots.specs.Numbered.{are_numbered}
use Rattle.account_opening.proofs.judge.judge_events.Goals as goal

pub loop-id-init : goal.loop-id-init
loop-id-init c = record {
  store = c.new-again.ensures.store;
  zones = c.new-again.ensures.zones;
  events = c.new-again.ensures.events;
  sound = λ k d h. absurd (omega (arith, h));
}

pub unreachable-requires : goal.unreachable-requires
unreachable-requires c =
    object_there c.args.zones.now (changes_of (entries c.args.store.now)) Event c.deref-id-items.result.now (c.deref-id-items.ensures.value ∙ c.in_ok-ids.ensures) c.loop-id.id-index c.loop-id-test.true
    (sym c.object.ensures ∙ ap option_copied c.in_default.is)

pub loop-id-preserved : goal.loop-id-preserved
loop-id-preserved c =
    let zones = c.args.zones.now in
    let cs = changes_of (entries c.args.store.now) in
    let ids = c.deref-id-items.result.now in
    let are = c.deref-id-items.ensures.value ∙ c.in_ok-ids.ensures in
    let k = c.loop-id.id-index in
    let n = get_or ids k 0 in
    let t = c.in-Some.event.now in
    let live = sym c.object.ensures ∙ ap option_copied c.in-Some.is in
    let before = c.loop-id.invariant in
    let same = ap (λ (z : List ZoneText). is_sound_object z (changes_of (entries c.loop-id.again.store.now)) Event n (data_of t)) before.zones
    ∙ ap (λ (s : Store). is_sound_object zones (changes_of (entries s)) Event n (data_of t)) before.store in
    record {
      store = ap (λ s. s.now) (rw c.in-Some-2.is at c.in_ok-more.ensures).of.0 ∙ before.store;
      zones = ap (λ z. z.now) (rw c.in-Some-2.is at c.in_ok-more.ensures).of.1 ∙ before.zones;
      events = (rw c.in-Some-2.is at c.in_ok-more.ensures).events ∙ ap (λ (i : ℕ). i + 1) before.events;
      sound = sound_more zones cs Event ids are k t c.loop-id-test.true before.sound live (sym same ∙ (rw c.in-Some-2.is at c.in_ok-more.ensures).sound);
    }

pub with_event-requires-clause-numbered : goal.with_event-requires-clause-numbered
with_event-requires-clause-numbered c = ap (λ (s : Store). are_numbered [] (changes_of (entries s))) c.loop-id.invariant.store ∙ c.requires.numbered

pub with_event-requires-clause-next : goal.with_event-requires-clause-next
with_event-requires-clause-next c =
    let cs = changes_of (entries c.args.store.now) in
    let are = c.deref-id-items.ensures.value ∙ c.in_ok-ids.ensures in
    ap (λ (s : Store). slice_get (live_ids (changes_of (entries s)) Event) c.loop-id.again.events) c.loop-id.invariant.store ∙ ap (slice_get (live_ids cs Event)) c.loop-id.invariant.events
    ∙ at_place c.args.zones.now cs Event c.deref-id-items.result.now are c.loop-id.id-index c.loop-id-test.true

pub with_event-requires-clause-live : goal.with_event-requires-clause-live
with_event-requires-clause-live c =
    ap (λ (s : Store). live_object (changes_of (entries s)) Event (get_or c.deref-id-items.result.now c.loop-id.id-index 0)) c.loop-id.invariant.store
    ∙ sym c.object.ensures ∙ ap option_copied c.in-Some.is

pub with_event-requires-clause-few : goal.with_event-requires-clause-few
with_event-requires-clause-few c =
    let same = ap (λ (ns : List ℕ). length ns) c.deref-id-items.ensures.value in
    omega (arith, c.loop-id.invariant.events, c.loop-id-test.true, same, c.in_ok-ids.ids.ok, c.in_ok-ids.ids.small)

pub returns-in_default-2-clause-named : goal.returns-in_default-2-clause-named
returns-in_default-2-clause-named c = λ fits.
    let zones = c.args.zones.now in
    let cs = changes_of (entries c.args.store.now) in
    let ids = c.deref-id-items.result.now in
    let are = c.deref-id-items.ensures.value ∙ c.in_ok-ids.ensures in
    let k = c.loop-id.id-index in
    let n = get_or ids k 0 in
    let t = c.in-Some.event.now in
    let live = sym c.object.ensures ∙ ap option_copied c.in-Some.is in
    let before = c.loop-id.invariant in
    let same = ap (λ (z : List ZoneText). is_sound_object z (changes_of (entries c.loop-id.again.store.now)) Event n (data_of t)) before.zones
    ∙ ap (λ (s : Store). is_sound_object zones (changes_of (entries s)) Event n (data_of t)) before.store in
    let there = subst (λ (z : List ZoneText). FitsButForObjects z (changes_of (entries c.loop-id.again.store.now))) (sym before.zones)
    (subst (λ (s : Store). FitsButForObjects zones (changes_of (entries s))) (sym before.store) fits) in
    let none : is_sound_object zones cs Event n (data_of t) ≡ false = sym same ∙ (rw c.in_default-2.is at c.in_ok-more.ensures.none) there in
    unsound_event zones cs ids are k t c.loop-id-test.true live none c.requires.calendars before.sound

pub returns-clause-rooms : goal.returns-clause-rooms
returns-clause-rooms c =
    let zones = c.args.zones.now in
    let cs = changes_of (entries c.args.store.now) in
    let are = c.deref-id-items.ensures.value ∙ c.in_ok-ids.ensures in
    let again = c.loop-id.again in
    let before = c.loop-id.invariant in
    let booked = subst (λ (z : List ZoneText). AreRooms z (again_at cs c.loop-id.id-index) again.rooms.rooms) before.zones
    (subst (λ (k : ℕ). AreRooms again.zones.now (again_at cs k) again.rooms.rooms) before.events
    (subst (λ (s : Store). AreRooms again.zones.now (again_at (changes_of (entries s)) again.events) again.rooms.rooms) before.store again.booked)) in
    subst (AreRooms zones cs) (sym c.into_rooms.ensures.rooms) (all_events zones cs c.requires.numbered c.deref-id-items.result.now are c.loop-id.id-index again.rooms.rooms c.loop-id-test.false booked)

pub returns-clause-sound : goal.returns-clause-sound
returns-clause-sound c =
    all_sound c.args.zones.now (changes_of (entries c.args.store.now)) Event c.deref-id-items.result.now (c.deref-id-items.ensures.value ∙ c.in_ok-ids.ensures) c.loop-id.id-index c.loop-id-test.false c.loop-id.invariant.sound
