use Rattle.std.proofs.Common.{◌≡◌, None, ap, append-nil, arith, length, length-append, map, refl, subst, sym, ◌∙◌, ◌++◌, []}
use Rattle.std.proofs.lemmas.List.{length-map}
use Rattle.std.specs.Prelude.{if◌then◌else◌}
use Rattle.std.specs.Arc.{arc_value}
use Rattle.account_core.proofs.Committing.{changes_committed, tally_committed}
use Rattle.account_core.proofs.InUse.{in_use_committed}
use Rattle.account_core.proofs.Rooms.{none_staged, rooms_committed}
use Rattle.account_core.proofs.SeriesRead.{none_read}
use Rattle.account_core.specs.declared.reading.Reading.{Reading}
use Rattle.spec_snapshots.proofs.NumberedPast.{parts_numbered}
use Rattle.spec_snapshots.specs.Numbered.{are_numbered}
use Rattle.account_core.specs.Tally.{Tallies}
use Rattle.account_core.specs.Uses.{has_staged_event}
use Rattle.account_rooms.specs.Rooms.{AreRooms}
use Rattle.account_rooms.specs.RoomsView.{RoomsView}
use Rattle.account_store.specs.Store.{entries}
use Rattle.cal_model.specs.Answer.{entries_from}
use Rattle.cal_model.specs.Quota.{size_of_object}
use Rattle.cal_model.specs.GoesOn.{GoesOn}
use Rattle.cal_model.specs.Sound.{first_unsound}
use Rattle.event_store.specs.ReadSeries.{AreRead}
use Rattle.spec_bookings.specs.SeriesPut.{series_put}
use Rattle.spec_history.specs.declared.entry.Change.{Change}
use Rattle.spec_history.specs.declared.entry.Entry.{Entry}
use Rattle.spec_history.specs.History.{changes_of}
use Rattle.account_core.proofs.ledger.Ledger.commit.Goals as goal

pub push_all-requires-clause-few : goal.push_all-requires-clause-few
push_all-requires-clause-few c =
    let l = c.args.self.now in
    let moved = ap (λ v. length v.items) c.replace-staged.ensures.value in
    omega (arith, moved, l.told.entries, l.tally.few, length-append (changes_of (entries l.store)) l.staged.items, length-map (entries l.store) (λ (e : Entry). e.change))

pub push_all-requires-clause-numbered : goal.push_all-requires-clause-numbered
push_all-requires-clause-numbered c =
    let l = c.args.self.now in
    ap (λ v. are_numbered (changes_of (entries l.store)) v.items) c.replace-staged.ensures.value ∙ (parts_numbered [] (changes_of (entries l.store)) l.staged.items l.goes_on.numbered).1

pub push_all-requires-clause-sizes : goal.push_all-requires-clause-sizes
push_all-requires-clause-sizes c =
    ap (λ v. map (λ (r : Reading). r.size) v.items) c.replace-readings.ensures.value ∙ c.args.self.now.sizes_read
    ∙ sym (ap (λ v. map (λ (d : Change). size_of_object d.object) v.items) c.replace-staged.ensures.value)

pub invariant_of-self : goal.invariant_of-self
invariant_of-self c =
    let pushed = c.compact.ensures.entries ∙ c.push_all.ensures.entries ∙ ap (λ v. entries c.args.self.now.store ++ entries_from c.args.stamp.now c.args.first v.items) c.replace-staged.ensures.value in
    let added = changes_committed _ _ c.args.stamp.now c.args.first _ pushed in
    let kept = tally_committed c.args.self.now.tally (entries c.args.self.now.store) _ c.args.self.now.staged.items c.args.self.now.told added in
    let emptied : c.replace-staged.new.dest.items ≡ [] = ap (λ v. v.items) c.replace-staged.ensures.after ∙ c.new.ensures.items in
    let unread : c.replace-readings.new.dest.items ≡ [] = ap (λ v. v.items) c.replace-readings.ensures.after ∙ c.new-2.ensures.items in
    let zones = arc_value c.args.self.now.zones in
    let rooms = rooms_committed zones (entries c.args.self.now.store) _ c.args.self.now.staged.items c.args.self.now.rooms.rooms c.args.self.now.rooms.rooms c.args.self.now.rooms_now added refl in
    let now = ap (λ (v : RoomsView). v.rooms) c.keep.ensures in
    let before = ap (λ (v : RoomsView). v.kept) c.keep.ensures in
    let told = c.still_in_use.ensures
    ∙ ap (λ ds. if has_staged_event ds then None else c.replace-known.result) (c.deref.ensures.value ∙ ap (λ v. v.items) c.replace-staged.ensures.value)
    ∙ ap (λ o. if has_staged_event c.args.self.now.staged.items then None else o) c.replace-known.ensures.value in
    let goes = subst (GoesOn zones) (sym added) c.args.self.now.goes_on in
    record {
      kept_told = kept;
      told = subst (λ items. Tallies c.args.self.now.tally (changes_of (entries c.compact.new.self) ++ items)) (sym emptied) (rw append-nil kept);
      events_read = subst (AreRead zones) (sym c.compact.ensures.events) (c.push_all.ensures.series zones
          (ap (λ v. map (λ (r : Reading). r.series) v.items) c.replace-readings.ensures.value ∙ c.args.self.now.series_read ∙ sym (ap (λ v. map (series_put zones) v.items) c.replace-staged.ensures.value))
          c.args.self.now.events_read);
      series_read = none_read (λ (r : Reading). r.series) (series_put zones) c.replace-staged.new.dest.items c.replace-readings.new.dest.items emptied unread;
      sizes_read = none_read (λ (r : Reading). r.size) (λ (d : Change). size_of_object d.object) c.replace-staged.new.dest.items c.replace-readings.new.dest.items emptied unread;
      kept_rooms = subst (AreRooms zones (changes_of (entries c.compact.new.self))) (sym before) rooms;
      rooms_now = none_staged zones _ _ c.args.self.now.rooms.rooms c.keep.new.self.rooms rooms emptied now;
      used = in_use_committed (changes_of (entries c.args.self.now.store)) c.args.self.now.staged.items c.args.self.now.in_use _ _ c.args.self.now.used added told;
      kept_goes_on = goes;
      goes_on = subst (λ ds. GoesOn zones (changes_of (entries c.compact.new.self) ++ ds)) (sym emptied) (subst (GoesOn zones) (sym (append-nil (changes_of (entries c.compact.new.self)))) goes);
      sound = ap (first_unsound zones (changes_of (entries c.compact.new.self))) emptied;
    }
