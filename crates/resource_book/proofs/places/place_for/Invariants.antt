use Rattle.std.proofs.Common.{◌≡◌, take, false, nat_lt}
use Rattle.std.specs.List.{list_any}
use Rattle.resource_book.proofs.places.place_for.Given as goal

abbrev pub invariant-loop-i : goal.invariant-loop-i
invariant-loop-i l = list_any (λ b. nat_lt l.number b.number) (take l.i l.bookings) ≡ false
