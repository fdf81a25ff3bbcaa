-- Steps and their ways back.
use Rattle.std.proofs.Common.{◌≡◌, ℕ, zero, suc, ◌<◌, ◌≤◌, List, [], ◌∷◌, ◌++◌, length, insert, remove, arith, ap, refl, get_or}
use Rattle.spec_bookings.specs.declared.booking.Booking.{Booking}
use Rattle.resource_book.specs.declared.round.Undo.{Undo}
use Rattle.resource_book.specs.Rounds.{before_step, before_steps, IsWayBack, AreWaysBack}

-- with a step more, the last
pub before-last : (us : List Undo) (u : Undo) (bs : List Booking) → before_steps (us ++ u ∷ []) bs ≡ before_steps us (before_step u bs)
before-last [] u bs = refl
before-last (v ∷ us) u bs = ap (before_step v) (before-last us u bs)

pub fits-last : (us : List Undo) (u : Undo) (bs : List Booking) → AreWaysBack (us ++ u ∷ []) bs → IsWayBack u bs × AreWaysBack us (before_step u bs)
fits-last [] u bs h = (h.1, tt)
fits-last (v ∷ us) u bs h =
    let r = fits-last us u bs h.0 in
    (r.0, (r.1, rw (before-last us u bs) at h.1))

pub fits-more : (us : List Undo) (u : Undo) (bs : List Booking) → IsWayBack u bs → AreWaysBack us (before_step u bs) → AreWaysBack (us ++ u ∷ []) bs
fits-more [] u bs f h = (tt, f)
fits-more (v ∷ us) u bs f h = (fits-more us u bs f h.0, rw (before-last us u bs) h.1)

-- a step and its way back
pub insert-removed : (bs : List Booking) (i : ℕ) (d : Booking) → i < length bs → insert (remove bs i) i (get_or bs i d) ≡ bs
insert-removed [] i d h = absurd (omega (arith, h))
insert-removed (b ∷ bs) zero d h = refl
insert-removed (b ∷ bs) (suc i) d h = ap (λ cs. b ∷ cs) (insert-removed bs i d (omega (arith, h)))

pub remove-inserted : (bs : List Booking) (i : ℕ) (d : Booking) → i ≤ length bs → remove (insert bs i d) i ≡ bs
remove-inserted [] zero d h = refl
remove-inserted [] (suc i) d h = absurd (omega (arith, h))
remove-inserted (b ∷ bs) zero d h = refl
remove-inserted (b ∷ bs) (suc i) d h = ap (λ cs. b ∷ cs) (remove-inserted bs i d (omega (arith, h)))
