use Rattle.std.proofs.Common.{◌∙◌, [], List, arith, ap, length, subst}
use Rattle.std.proofs.lemmas.List.{length-map}
use Rattle.std.proofs.lemmas.Result.{err_from_is_err_and}
use Rattle.account_opening.proofs.JudgeLemmas.{judged_goes_on}
use Rattle.account_opening.specs.Opening.{NamesUnsound}
use Rattle.account_rooms.specs.Rooms.{AreRooms}
use Rattle.account_store.specs.Store.{entries}
use Rattle.cal_model.specs.GoesOn.{GoesOn}
use Rattle.cal_model.specs.Quota.{live_objects, live_size}
use Rattle.spec_history.specs.History.{changes_of}
use Rattle.spec_history.specs.declared.entry.Entry.{Entry}
use Rattle.spec_snapshots.specs.Numbered.{are_numbered}
use Rattle.account_opening.proofs.open.parts_of.Goals as goal

pub returns-in_err-load-clause-named : goal.returns-in_err-load-clause-named
returns-in_err-load-clause-named c =
    let zones = c.args.zones.now in
    let passed = err_from_is_err_and c.from_residual-in_err-load.result c.from_residual-in_err-load.ensures.1 in
    rw (passed.1, passed.2) (subst (λ (es : List Entry). NamesUnsound zones (changes_of es) c.in_err-load.field-0.0) c.in_ok-store.ensures.entries (c.in_err-load.ensures.named zones))

pub returns-clause-opened : goal.returns-clause-opened
returns-clause-opened c =
    let zones = c.args.zones.now in
    let is = c.in_ok-store.ensures.entries in
    let es = entries c.in_ok-store.store in
    let many = ap (λ (l : List Entry). length l) is in
    record {
      entries = is;
      read = c.in_ok-store.ensures.read;
      objects = c.in_ok-load.ensures.objects ∙ ap (λ (l : List Entry). length (live_objects (changes_of l))) is;
      size = c.in_ok-load.ensures.bytes ∙ ap (λ (l : List Entry). live_size (changes_of l)) is;
      rooms = subst (λ (l : List Entry). AreRooms zones (changes_of l) c.in_ok-rooms.rooms.rooms) is c.in_ok-rooms.ensures.rooms;
      kept = c.in_ok-rooms.ensures.kept;
      goes_on = subst (λ (l : List Entry). GoesOn zones (changes_of l)) is
          (judged_goes_on zones (changes_of es) c.in_ok-rooms.rooms.rooms (ap (λ (l : List Entry). are_numbered [] (changes_of l)) is ∙ c.in_ok-store.ensures.numbered)
          c.in_ok-calendars.ensures.sound c.in_ok-rooms.ensures.sound c.in_ok-rooms.ensures.rooms c.in_ok-calendars.ensures.resources
          (omega (arith, many, c.in_ok-store.ensures.few, length-map es (λ (e : Entry). e.change)))
          (omega (arith, c.in_ok-load.ensures.objects, c.in_ok-load.load.few)) (omega (arith, c.in_ok-load.ensures.bytes, c.in_ok-load.load.small)));
    }
