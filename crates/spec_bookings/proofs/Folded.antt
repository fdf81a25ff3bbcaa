-- The bookings that changes make one after the other, and that they are those of the live events.
use Rattle.std.proofs.Common.{◌≡◌, ℕ, ◌==◌, List, [], ◌∷◌, ◌++◌, Bool, true, false, ◌&&◌, Option, None, refl, sym, ap, ◌∙◌, if◌then◌else◌}
use Rattle.spec_json.specs.declared.tree.Tree.{Tree}
use Rattle.spec_history.specs.declared.entry.Change.{Change}
use Rattle.spec_history.specs.declared.entry.Kind.{Kind}
use Rattle.spec_history.specs.declared.entry.Kind.TheVariants.{Calendar, Event}
use Rattle.spec_history.specs.History.{is_kind, names, object_from}
use Rattle.spec_series.specs.declared.series.Series.{Series}
use Rattle.spec_bookings.specs.declared.booking.Booking.{Booking}
use Rattle.spec_bookings.specs.Bookings.{without_booking}
use Rattle.spec_bookings.specs.AfterChange.{after_change, with_booked}
use Rattle.spec_bookings.specs.HistoryBookings.{booked_by, bookings_at}
use Rattle.spec_bookings.proofs.Listed.{live_booked, live_rise, same_bookings}
use Rattle.spec_bookings.specs.Rising.{Rise, series_booked}
use Rattle.spec_bookings.proofs.Tables.{same_number, turned}
use Rattle.spec_bookings.proofs.Placed.{rise_again, in_again_same, in_again_other}

-- the bookings after some changes, each of which makes a step
abbrev pub bookings_from : (Tree → Option Series) → List Booking → List Change → List Booking
bookings_from books bs [] = bs
bookings_from books bs (c ∷ cs) = bookings_from books (after_change books c bs) cs

module _ (books : Tree → Option Series) where
  abbrev changed : Kind → ℕ → Option Tree → List Booking → List Booking
  changed kind id o bs = if is_kind Event kind then with_booked id (booked_by books o) (without_booking id bs) else bs

  -- one change
  one : (m : ℕ) (kind : Kind) (id : ℕ) (o before : Option Tree) (bs : List Booking) → Rise bs → series_booked m bs ≡ booked_by books before
      → Rise (changed kind id o bs) × (series_booked m (changed kind id o bs) ≡ booked_by books (if is_kind Event kind && (m == id) then o else before))
  one m Calendar id o before bs r h = (r, h)
  one m Event id o before bs r h = (rise_again id (booked_by books o) bs r, by_cases (m == id) refl)
    where
      by_cases : (t : Bool) → (m == id) ≡ t → series_booked m (with_booked id (booked_by books o) (without_booking id bs)) ≡ booked_by books (if t then o else before)
      by_cases true e = rw (same_number m id e) (in_again_same id (booked_by books o) bs r)
      by_cases false e = in_again_other m id (booked_by books o) bs (turned id m ∙ e) ∙ h

  all : (cs : List Change) (m : ℕ) (before : Option Tree) (bs : List Booking) → Rise bs → series_booked m bs ≡ booked_by books before
      → Rise (bookings_from books bs cs) × (series_booked m (bookings_from books bs cs) ≡ booked_by books (object_from before cs Event m))
  all [] m before bs r h = (r, h)
  all (c ∷ cs) m before bs r h =
      let p = one m c.kind c.id c.object before bs r h in
      all cs m (if names Event m c then c.object else before) (after_change books c bs) p.0 p.1

  from_more : (bs : List Booking) (cs : List Change) (c : Change) → bookings_from books bs (cs ++ c ∷ []) ≡ after_change books c (bookings_from books bs cs)
  from_more bs [] c = refl
  from_more bs (d ∷ ds) c = from_more (after_change books d bs) ds c

  -- change by change they come out as the live events book
  pub folded_are : (cs : List Change) → bookings_from books [] cs ≡ bookings_at books cs
  folded_are cs =
      same_bookings (bookings_from books [] cs) (bookings_at books cs) (all cs 0 None [] tt refl).0 (live_rise books cs)
      (λ n. (all cs n None [] tt refl).1 ∙ sym (live_booked books cs n))

  pub change_more : (cs : List Change) (c : Change) → bookings_at books (cs ++ c ∷ []) ≡ after_change books c (bookings_at books cs)
  change_more cs c = sym (folded_are (cs ++ c ∷ [])) ∙ from_more [] cs c ∙ ap (after_change books c) (folded_are cs)
