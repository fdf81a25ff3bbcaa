-- One booking more.
use Rattle.std.proofs.Common.{◌≡◌, ◌+◌, [], ◌∷◌, ◌++◌, take, append_assoc, sym, add-one}
use Rattle.std.proofs.Math.Seq.{take-suc}
use Rattle.residue_clash.proofs.Covering.{shared_by_tests}
use Rattle.resource_book.proofs.Clashes.{one_more}
use Rattle.resource_book.proofs.check.earliest_among.Goals as goal

pub loop-booking-preserved : goal.loop-booking-preserved
loop-booking-preserved c = λ before h.
    let bs = c.args.bookings.now in
    let s = c.args.series.now in
    let i = c.loop-booking.booking-index in
    let b = c.booking-item.result in
    let found = c.first_shared-found.result in
    let step : before ++ take (i + 1) bs ≡ (before ++ take i bs) ++ b ∷ [] = rw (add-one, take-suc bs i b c.loop-booking-test.true, ← c.booking-item.is) (sym (append_assoc before (take i bs) (b ∷ []))) in
    rw (step, c.earlier_of-best.ensures, c.number.ensures)
    (one_more (before ++ take i bs) s b c.loop-booking.best found (c.loop-booking.invariant before h) (shared_by_tests b.series s found c.first_shared-found.ensures.least) c.first_shared-found.ensures.near)
