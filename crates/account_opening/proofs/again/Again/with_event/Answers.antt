use Rattle.std.proofs.Common.{true, ◌≡◌, Bool, false, refl, ◌∙◌, ◌++◌, ◌∷◌, [], List, Some, ap, subst, sym}
use Rattle.account_opening.proofs.CalendarLemmas.{same_sound}
use Rattle.account_opening.proofs.FitLemmas.{none_clashes, none_full}
use Rattle.account_opening.proofs.NumberedLemmas.{numbers_in_order}
use Rattle.account_opening.proofs.PutAgainLemmas.{calendars_are, event_more, resources_are}
use Rattle.account_opening.specs.Again.{again_at}
use Rattle.account_rooms.proofs.Following.{event_follows, resource_of_room}
use Rattle.account_rooms.specs.RoomChanges.{booked_again}
use Rattle.account_rooms.specs.Rooms.{AreRooms, BookedRoom, has_room}
use Rattle.account_store.specs.Store.{entries}
use Rattle.cal_model.specs.SoundObjects.{is_sound_object}
use Rattle.spec_history.specs.History.{changes_of, ids_at}
use Rattle.spec_history.specs.declared.entry.Change.{Change}
use Rattle.spec_history.specs.declared.entry.Kind.TheVariants.{Event}
use Rattle.spec_json.specs.TreeData.{data_of}
use Rattle.std.proofs.Common.{length, map}
use Rattle.account_opening.proofs.again.Again.with_event.Goals as goal

not_true : (b : Bool) → (b ≡ true → ⊥) → b ≡ false
not_true true h = absurd (h refl)
not_true false h = refl

pub returns-in_default-clause-none : goal.returns-in_default-clause-none
returns-in_default-clause-none c = λ fits.
    let zones = c.args.self.zones.now in
    let cs = changes_of (entries c.args.self.store.now) in
    let k = c.args.self.events in
    let t = c.args.event.now in
    let none = rw c.in_default.is at c.in_ok-series.ensures.none in
    let same = same_sound zones (again_at cs k) cs (calendars_are cs k) (resources_are cs (λ q. length (ids_at cs q)) (numbers_in_order cs c.requires.numbered) k) (data_of t) c.args.id in
    not_true (is_sound_object zones cs Event c.args.id (data_of t)) (λ sound. none (same ∙ sound)
    (λ s valid. (none_full zones cs fits k c.args.id t c.requires.next c.requires.live s valid, none_clashes zones cs fits k c.args.id t c.requires.next c.requires.live s valid)))

pub put_event-requires : goal.put_event-requires
put_event-requires c = λ n there named.
    let zones = c.args.self.zones.now in
    let again = again_at (changes_of (entries c.args.self.store.now)) c.args.self.events in
    let fit = rw c.in-Some.is at c.in_ok-series.ensures.fit in
    let valid = rw c.in-Some.is at c.in_ok-series.ensures.series in
    let takes = fit.bookings n named (resource_of_room zones again n (sym (ap (has_room n) c.args.self.booked.rooms) ∙ there)) in
    record { series = takes.series; is = sym valid ∙ takes.valid; week = takes.week }

pub invariant_of-result : goal.invariant_of-result
invariant_of-result c =
    let zones = c.args.self.zones.now in
    let cs = changes_of (entries c.args.self.store.now) in
    let k = c.args.self.events in
    let t = c.args.event.now in
    let rs = c.args.self.rooms.rooms in
    let fit = rw c.in-Some.is at c.in_ok-series.ensures.fit in
    let valid = rw c.in-Some.is at c.in_ok-series.ensures.series in
    let after = again_at cs k ++ (record { kind = Event; id = c.args.id; object = Some t }) ∷ [] in
    let more = event_follows zones (again_at cs k) c.args.id (Some t) rs c.args.self.booked fit in
    record {
      booked = subst (λ (ds : List Change). AreRooms zones ds c.put_event.new.self.rooms) (sym (event_more cs k c.args.id t c.requires.next c.requires.live))
          (subst (λ (qs : List BookedRoom). AreRooms zones after qs) (ap (λ s. map (booked_again c.args.id (Some t) s) rs) valid ∙ sym c.in_ok-put_event.ensures.ok) more);
    }

pub returns-clause-sound : goal.returns-clause-sound
returns-clause-sound c =
    let zones = c.args.self.zones.now in
    let cs = changes_of (entries c.args.self.store.now) in
    let k = c.args.self.events in
    let sound = rw c.in-Some.is at c.in_ok-series.ensures.sound in
    sym (same_sound zones (again_at cs k) cs (calendars_are cs k) (resources_are cs (λ q. length (ids_at cs q)) (numbers_in_order cs c.requires.numbered) k) (data_of c.args.event.now) c.args.id) ∙ sound
