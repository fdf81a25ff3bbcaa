use Rattle.std.proofs.Common.{◌∙◌, [], List, arith, ap, subst, sym}
use Rattle.std.specs.Option.{option_copied}
use Rattle.account_opening.proofs.JudgeLemmas.{all_calendars, all_sound, calendar_more, object_there, sound_more, unsound_calendar}
use Rattle.account_rooms.proofs.Following.{no_rooms}
use Rattle.account_rooms.specs.Rooms.{AreRooms, BookedRoom}
use Rattle.account_store.specs.Store.{entries}
use Rattle.spec_history.specs.History.{changes_of}
use Rattle.spec_history.specs.declared.entry.Kind.TheVariants.{Calendar}
use Rattle.account_opening.proofs.judge.calendar_rooms.Goals as goal

pub loop-id-init : goal.loop-id-init
loop-id-init c = record {
  rooms = subst (λ (rs : List BookedRoom). AreRooms c.args.zones.now [] rs) (sym (ap (λ r. r.rooms) c.new-rooms.ensures)) (no_rooms c.args.zones.now);
  sound = λ k d h. absurd (omega (arith, h));
}

pub unreachable-requires : goal.unreachable-requires
unreachable-requires c =
    object_there c.args.zones.now (changes_of (entries c.args.store.now)) Calendar c.deref-id-items.result.now (c.deref-id-items.ensures.value ∙ c.in_ok-ids.ensures) c.loop-id.id-index c.loop-id-test.true
    (sym c.object.ensures ∙ ap option_copied c.in_default.is)

pub returns-then-not-branch-clause-named : goal.returns-then-not-branch-clause-named
returns-then-not-branch-clause-named c = λ fits.
    let cs = changes_of (entries c.args.store.now) in
    unsound_calendar c.args.zones.now cs c.deref-id-items.result.now (c.deref-id-items.ensures.value ∙ c.in_ok-ids.ensures) c.loop-id.id-index c.in-Some.calendar.now c.loop-id-test.true
    (sym c.object.ensures ∙ ap option_copied c.in-Some.is) (sym (c.in_ok-is_sound_calendar.ensures cs) ∙ c.if-not-branch.true) c.loop-id.invariant.sound

pub loop-id-preserved : goal.loop-id-preserved
loop-id-preserved c =
    let zones = c.args.zones.now in
    let cs = changes_of (entries c.args.store.now) in
    let ids = c.deref-id-items.result.now in
    let are = c.deref-id-items.ensures.value ∙ c.in_ok-ids.ensures in
    let k = c.loop-id.id-index in
    let t = c.in-Some.calendar.now in
    let live = sym c.object.ensures ∙ ap option_copied c.in-Some.is in
    record {
      rooms = calendar_more zones cs c.requires ids are k t c.loop-id.rooms.rooms c.put_calendar.new.self.rooms c.loop-id-test.true live c.loop-id.invariant.rooms c.in_ok-put_calendar.ensures.ok;
      sound = sound_more zones cs Calendar ids are k t c.loop-id-test.true c.loop-id.invariant.sound live (sym (c.in_ok-is_sound_calendar.ensures cs) ∙ c.if-not-branch.false);
    }

pub returns-clause-rooms : goal.returns-clause-rooms
returns-clause-rooms c =
    all_calendars c.args.zones.now (changes_of (entries c.args.store.now)) c.requires c.deref-id-items.result.now (c.deref-id-items.ensures.value ∙ c.in_ok-ids.ensures) c.loop-id.id-index c.loop-id.rooms.rooms c.loop-id-test.false c.loop-id.invariant.rooms

pub returns-clause-sound : goal.returns-clause-sound
returns-clause-sound c =
    all_sound c.args.zones.now (changes_of (entries c.args.store.now)) Calendar c.deref-id-items.result.now (c.deref-id-items.ensures.value ∙ c.in_ok-ids.ensures) c.loop-id.id-index c.loop-id-test.false c.loop-id.invariant.sound
