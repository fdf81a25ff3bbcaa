use Rattle.std.proofs.Common.{arith, ap, ◌∙◌}
use Rattle.account_rooms.proofs.Slots.{one_changed, same_kept}
use Rattle.account_rooms.specs.Slots.{booked, room_kept}
use Rattle.spec_json.specs.TreeData.{data_of}
use Rattle.account_rooms.proofs.slot.book_in_all.Goals as goal

pub loop-i-preserved : goal.loop-i-preserved
loop-i-preserved c = record {
  done =
      one_changed (booked c.args.number (data_of c.args.event.now) c.args.series.now) c.loop-i.slots.items c.args.slots.now.items c.loop-i.i c.index_mut.result.now c.book.new.self
      (omega (arith, c.loop-i-test.true, c.len.ensures, c.loop-i.slots.ok.0)) c.loop-i.invariant.done
      (c.in_ok-book.ensures.ok ∙ ap (booked c.args.number (data_of c.args.event.now) c.args.series.now) c.index_mut.ensures.value);
  kept = same_kept c.loop-i.slots.items c.loop-i.i c.index_mut.result.now c.book.new.self (c.book.ensures.kept ∙ ap room_kept c.index_mut.ensures.value) ∙ c.loop-i.invariant.kept;
  len = c.loop-i.invariant.len;
}

pub returns-in_err-book-clause-kept : goal.returns-in_err-book-clause-kept
returns-in_err-book-clause-kept c =
    same_kept c.loop-i.slots.items c.loop-i.i c.index_mut.result.now c.book.new.self (c.book.ensures.kept ∙ ap room_kept c.index_mut.ensures.value) ∙ c.loop-i.invariant.kept
