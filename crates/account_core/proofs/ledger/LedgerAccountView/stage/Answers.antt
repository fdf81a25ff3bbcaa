use Rattle.std.proofs.Common.{◌++◌, ◌∷◌, [], ap, append-nil, append_assoc, arith, map, subst, sym, ◌∙◌}
use Rattle.std.specs.Arc.{arc_value}
use Rattle.account_core.proofs.Counting.{next, room_for, tally_counted}
use Rattle.account_core.proofs.GoingOn.{goes_on_more}
use Rattle.account_core.proofs.Numbers.{new_is_next}
use Rattle.account_core.proofs.Rooms.{one_staged}
use Rattle.account_core.proofs.SeriesRead.{one_read}
use Rattle.account_core.proofs.Soundness.{one_sound}
use Rattle.account_core.specs.Ledger.{changes, history, staged}
use Rattle.account_core.specs.Tally.{Tallies, count_created}
use Rattle.account_rooms.proofs.Following.{rooms_may, rooms_more}
use Rattle.account_rooms.specs.RoomChanges.{MayChange, rooms_after}
use Rattle.account_rooms.specs.Rooms.{AreRooms}
use Rattle.account_core.specs.declared.reading.Reading.{Reading}
use Rattle.cal_model.specs.GoesOn.{GoesOn}
use Rattle.cal_model.specs.Quota.{size_of_object}
use Rattle.spec_bookings.specs.SeriesPut.{series_put}
use Rattle.spec_history.specs.declared.entry.Change.{Change}
use Rattle.spec_history.specs.declared.entry.Kind.TheVariants.{Calendar}
use Rattle.account_core.proofs.ledger.LedgerAccountView.stage.Goals as goal

pub follow-requires : goal.follow-requires
follow-requires c =
    let l = c.args.self.now in
    subst (MayChange l.rooms.rooms c.args.change.kind c.args.change.object) (sym c.requires.series)
    (rooms_may (arc_value l.zones) (changes l) c.args.change l.rooms.rooms l.rooms_now c.requires.fit)

pub count-requires : goal.count-requires
count-requires c =
    let l = c.args.self.now in
    let g = c.load_of-gone in
    let p = c.load_put-put in
    let room = room_for l.tally (changes l) c.args.change g.result.objects g.result.bytes p.result.objects p.result.bytes l.told c.requires.fit.room l.tally.within l.tally.small
    g.ensures.objects g.ensures.bytes p.ensures.objects (p.ensures.bytes ∙ c.requires.size) in
    record { few = room.few; had = room.had; had_bytes = room.had_bytes; within = room.within; small = room.small; next = next l.tally _ c.args.change l.told c.requires.fit.number }

pub invariant_of-reading : goal.invariant_of-reading
invariant_of-reading c =
    let l = c.args.self.now in
    let g = c.load_of-gone in
    let p = c.load_put-put in
    let room = room_for l.tally (changes l) c.args.change g.result.objects g.result.bytes p.result.objects p.result.bytes l.told c.requires.fit.room l.tally.within l.tally.small
    g.ensures.objects g.ensures.bytes p.ensures.objects (p.ensures.bytes ∙ c.requires.size) in
    record { small = omega (arith, room.one, p.ensures.bytes) }

pub invariant_of-self : goal.invariant_of-self
invariant_of-self c =
    let l = c.args.self.now in
    let zones = arc_value l.zones in
    let cs = changes l in
    let more = c.push_reserved-in-Ok.ensures.items ∙ ap (λ ds. ds ++ c.args.change ∷ []) c.follow.ensures.staged in
    let after = c.in-Ok.ensures.rooms ∙ ap (λ s. rooms_after c.args.change s l.rooms.rooms) c.requires.series in
    let new = new_is_next cs (count_created l.tally Calendar) Calendar (l.told.numbers Calendar) in
    let g = c.load_of-gone in
    let p = c.load_put-put in
    let tallied : Tallies c.count.new.self (cs ++ c.args.change ∷ []) =
    tally_counted l.tally c.count.new.self cs c.args.change g.result.objects g.result.bytes p.result.objects p.result.bytes l.told c.requires.fit.number
    g.ensures.objects g.ensures.bytes p.ensures.objects (p.ensures.bytes ∙ c.requires.size) c.count.ensures.entries c.count.ensures.objects c.count.ensures.size c.count.ensures.created in
    record {
      kept_told = l.kept_told;
      told = rw (c.push_reserved-in-Ok.ensures.items, c.follow.ensures.staged, ← append_assoc) tallied;
      events_read = l.events_read;
      series_read = one_read (λ (r : Reading). r.series) (series_put zones) (staged l) c.push_reserved-in-Ok.new.self.items c.args.change c.follow.new.readings.items c.push_reserved.new.self.items _
          (ap (map (λ (r : Reading). r.series)) c.follow.ensures.readings ∙ l.series_read) c.requires.series more c.push_reserved.ensures.items;
      sizes_read = one_read (λ (r : Reading). r.size) (λ (d : Change). size_of_object d.object) (staged l) c.push_reserved-in-Ok.new.self.items c.args.change c.follow.new.readings.items c.push_reserved.new.self.items _
          (ap (map (λ (r : Reading). r.size)) c.follow.ensures.readings ∙ l.sizes_read) c.requires.size more c.push_reserved.ensures.items;
      kept_rooms = subst (AreRooms zones (history l)) (sym c.follow.ensures.kept) l.kept_rooms;
      rooms_now = one_staged zones (history l) (staged l) c.push_reserved-in-Ok.new.self.items c.args.change l.rooms.rooms c.follow.new.rooms.rooms l.rooms_now c.requires.fit new more after;
      used = l.used;
      kept_goes_on = l.kept_goes_on;
      goes_on = subst (GoesOn zones) (sym (ap (λ ds. history l ++ ds) more ∙ sym (append_assoc (history l) (staged l) (c.args.change ∷ []))))
          (goes_on_more zones cs c.args.change c.count.new.self _ l.goes_on c.requires.fit new tallied (rooms_more zones cs c.args.change l.rooms.rooms l.rooms_now c.requires.fit new));
      sound = one_sound zones (history l) (staged l) c.push_reserved-in-Ok.new.self.items c.args.change l.sound c.requires.fit.sound more;
    }

pub returns-in-Ok-clause-ok : goal.returns-in-Ok-clause-ok
returns-in-Ok-clause-ok c =
    let l = c.args.self.now in
    let more = c.push_reserved-in-Ok.ensures.items ∙ ap (λ ds. ds ++ c.args.change ∷ []) c.follow.ensures.staged in
    ap (λ ds. history l ++ ds) more ∙ sym (append_assoc (history l) (staged l) (c.args.change ∷ []))

pub returns-in-Err-clause-err : goal.returns-in-Err-clause-err
returns-in-Err-clause-err c =
    let cs = history c.args.self.now in
    ap (λ ds. cs ++ ds) c.clear.ensures.items ∙ append-nil cs
