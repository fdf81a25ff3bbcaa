-- Lists of slots, one step after the other.
use Rattle.std.proofs.Common.{◌≡◌, ◌+◌, ◌<◌, ◌==◌, ◌&&◌, ◌||◌, Bool, true, false, ℕ, zero, suc, List, [], ◌∷◌, ◌++◌, Option, Some, add-one, arith, drop, filter, get_or, length, map, refl, set, subst, sym, take, ap, ◌∙◌}
use Rattle.std.proofs.lemmas.Bool.{false≢true, or_right}
use Rattle.std.proofs.lemmas.Option.{same_Some}
use Rattle.std.specs.List.{list_any}
use Rattle.account_rooms.specs.RoomChanges.{IsShortSeries, booked_again, without_room}
use Rattle.account_rooms.specs.Rooms.{BookedRoom, has_room}
use Rattle.account_rooms.specs.RoomsView.{RoomsView}
use Rattle.account_rooms.specs.Slots.{booked, closed, kept_slot, retired, room_kept, room_now, rooms_kept, rooms_now, is_booked_by, undone}
use Rattle.account_rooms.specs.declared.slot.Slot.{Slot}
use Rattle.spec_events.specs.Events.{names_calendar}
use Rattle.spec_json.specs.TreeData.{data_of}
use Rattle.spec_json.specs.declared.tree.Tree.{Tree}
use Rattle.spec_bookings.specs.Bookings.{with_booking, without_booking}
use Rattle.spec_series.specs.Lengths.{IsWeekLong}
use Rattle.spec_series.specs.declared.series.Series.{Series}
use Rattle.resource_book.specs.RoomView.{RoomView}
use Rattle.spec_bookings.proofs.Tables.{by_test, number_same, or_false}

module _ {X : Type 0} where
  head_same : (x y : X) (xs ys : List X) → x ∷ xs ≡ y ∷ ys → x ≡ y
  head_same x y xs ys e = ap (λ (zs : List X). get_or zs 0 x) e

  tail_same : (x y : X) (xs ys : List X) → x ∷ xs ≡ y ∷ ys → xs ≡ ys
  tail_same x y xs ys e = ap (λ (zs : List X). drop 1 zs) e

  -- the item at a place isn't changed yet
  at_place : (f : X → X) (xs ys : List X) (i : ℕ) (d : X) → i < length xs → xs ≡ map f (take i ys) ++ drop i ys → get_or xs i d ≡ get_or ys i d
  at_place f [] ys i d lt e = absurd (omega (arith, lt))
  at_place f (x ∷ xs) [] zero d lt e = absurd (cc e)
  at_place f (x ∷ xs) [] (suc i) d lt e = absurd (cc e)
  at_place f (x ∷ xs) (y ∷ ys) zero d lt e = head_same x y xs ys e
  at_place f (x ∷ xs) (y ∷ ys) (suc i) d lt e = at_place f xs ys i d (omega (arith, lt)) (tail_same x (f y) xs (map f (take i ys) ++ drop i ys) e)

  set_part : (f : X → X) (xs ys : List X) (i : ℕ) (z d : X) → i < length xs → xs ≡ map f (take i ys) ++ drop i ys → z ≡ f (get_or ys i d)
      → set xs i z ≡ map f (take (suc i) ys) ++ drop (suc i) ys
  set_part f [] ys i z d lt e h = absurd (omega (arith, lt))
  set_part f (x ∷ xs) [] zero z d lt e h = absurd (cc e)
  set_part f (x ∷ xs) [] (suc i) z d lt e h = absurd (cc e)
  set_part f (x ∷ xs) (y ∷ ys) zero z d lt e h = rw (h, tail_same x y xs ys e) refl
  set_part f (x ∷ xs) (y ∷ ys) (suc i) z d lt e h =
      rw (head_same x (f y) xs (map f (take i ys) ++ drop i ys) e)
      (ap (λ (zs : List X). f y ∷ zs) (set_part f xs ys i z d (omega (arith, lt)) (tail_same x (f y) xs (map f (take i ys) ++ drop i ys) e) h))

  -- one more item is changed
  pub one_changed : (f : X → X) (xs ys : List X) (i : ℕ) (d z : X) → i < length xs → xs ≡ map f (take i ys) ++ drop i ys → z ≡ f (get_or xs i d)
      → set xs i z ≡ map f (take (i + 1) ys) ++ drop (i + 1) ys
  one_changed f xs ys i d z lt e h =
      rw add-one (set_part f xs ys i z d lt e (h ∙ ap f (at_place f xs ys i d lt e)))

-- a slot that keeps what it goes back to
pub same_kept : (ss : List Slot) (i : ℕ) (d t : Slot) → room_kept t ≡ room_kept (get_or ss i d) → rooms_kept (set ss i t) ≡ rooms_kept ss
same_kept [] i d t h = refl
same_kept (u ∷ ss) zero d t h = ap (λ r. r ∷ rooms_kept ss) h
same_kept (u ∷ ss) (suc i) d t h = ap (λ rs. room_kept u ∷ rs) (same_kept ss i d t h)

-- The rooms of slots after a step.

abbrev slot : ℕ → RoomView → Bool → Slot
slot n r lives = record { calendar = n; room = r; live = lives }

closed_one : (n m : ℕ) (r : RoomView) (lives same : Bool) (ss : List Slot) → (m == n) ≡ same → rooms_now (map (closed n) ss) ≡ without_room n (rooms_now ss)
    → rooms_now (map (closed n) (slot m r lives ∷ ss)) ≡ without_room n (rooms_now (slot m r lives ∷ ss))
closed_one n m r true true ss e h = rw e h
closed_one n m r false true ss e h = rw e h
closed_one n m r true false ss e h = rw e (ap (λ rs. room_now (slot m r true) ∷ rs) h)
closed_one n m r false false ss e h = rw e h

pub closed_now : (n : ℕ) (ss : List Slot) → rooms_now (map (closed n) ss) ≡ without_room n (rooms_now ss)
closed_now n [] = refl
closed_now n (s ∷ ss) = closed_one n s.calendar s.room s.live (s.calendar == n) ss refl (closed_now n ss)

closed_kept_one : (n : ℕ) (s : Slot) → room_kept (closed n s) ≡ room_kept s
closed_kept_one n s = by_test (λ t. room_kept t ≡ room_kept s) (s.calendar == n) (record s { live = false }) s (λ e. refl) (λ e. refl)

kept_by : (f : Slot → Slot) → ((s : Slot) → room_kept (f s) ≡ room_kept s) → (k : ℕ) (ss : List Slot) → rooms_kept (take k (map f ss)) ≡ rooms_kept (take k ss)
kept_by f h zero [] = refl
kept_by f h zero (s ∷ ss) = refl
kept_by f h (suc k) [] = refl
kept_by f h (suc k) (s ∷ ss) = rw (h s, kept_by f h k ss) refl

pub kept_take : (k : ℕ) (ss : List Slot) → rooms_kept (take k ss) ≡ take k (rooms_kept ss)
kept_take zero [] = refl
kept_take zero (s ∷ ss) = refl
kept_take (suc k) [] = refl
kept_take (suc k) (s ∷ ss) = ap (λ rs. room_kept s ∷ rs) (kept_take k ss)

pub closed_kept : (n k : ℕ) (ss : List Slot) → rooms_kept (take k (map (closed n) ss)) ≡ rooms_kept (take k ss)
closed_kept n k ss = kept_by (closed n) (closed_kept_one n) k ss

abbrev pub room_without : ℕ → BookedRoom → BookedRoom
room_without n r = record { calendar = r.calendar; bookings = without_booking n r.bookings }

retired_one : (n m : ℕ) (r : RoomView) (lives : Bool) (ss : List Slot) → rooms_now (map (retired n) ss) ≡ map (room_without n) (rooms_now ss)
    → rooms_now (map (retired n) (slot m r lives ∷ ss)) ≡ map (room_without n) (rooms_now (slot m r lives ∷ ss))
retired_one n m r true ss h = ap (λ rs. room_without n (room_now (slot m r true)) ∷ rs) h
retired_one n m r false ss h = h

pub retired_now : (n : ℕ) (ss : List Slot) → rooms_now (map (retired n) ss) ≡ map (room_without n) (rooms_now ss)
retired_now n [] = refl
retired_now n (s ∷ ss) = retired_one n s.calendar s.room s.live ss (retired_now n ss)

pub retired_kept : (n k : ℕ) (ss : List Slot) → rooms_kept (take k (map (retired n) ss)) ≡ rooms_kept (take k ss)
retired_kept n k ss = kept_by (retired n) (λ s. refl) k ss

abbrev live_slots : List Slot → List Slot
live_slots ss = filter (λ s. s.live) ss

kept_one : (m : ℕ) (r : RoomView) (lives : Bool) (ss : List Slot) → rooms_now (map kept_slot (live_slots ss)) ≡ rooms_now ss
    → rooms_now (map kept_slot (live_slots (slot m r lives ∷ ss))) ≡ rooms_now (slot m r lives ∷ ss)
kept_one m r true ss h = ap (λ rs. room_now (slot m r true) ∷ rs) h
kept_one m r false ss h = h

pub kept_now : (ss : List Slot) → rooms_now (map kept_slot (live_slots ss)) ≡ rooms_now ss
kept_now [] = refl
kept_now (s ∷ ss) = kept_one s.calendar s.room s.live ss (kept_now ss)

kept_kept_one : (m : ℕ) (r : RoomView) (lives : Bool) (ss : List Slot) → rooms_kept (map kept_slot (live_slots ss)) ≡ rooms_now ss
    → rooms_kept (map kept_slot (live_slots (slot m r lives ∷ ss))) ≡ rooms_now (slot m r lives ∷ ss)
kept_kept_one m r true ss h = ap (λ rs. room_now (slot m r true) ∷ rs) h
kept_kept_one m r false ss h = h

pub kept_kept : (ss : List Slot) → rooms_kept (map kept_slot (live_slots ss)) ≡ rooms_now ss
kept_kept [] = refl
kept_kept (s ∷ ss) = kept_kept_one s.calendar s.room s.live ss (kept_kept ss)

pub undone_now : (ss : List Slot) → rooms_now (map undone ss) ≡ rooms_kept ss
undone_now [] = refl
undone_now (s ∷ ss) = ap (λ rs. room_kept s ∷ rs) (undone_now ss)

pub undone_kept : (k : ℕ) (ss : List Slot) → rooms_kept (take k (map undone (take k ss))) ≡ rooms_kept (take k ss)
undone_kept zero [] = refl
undone_kept zero (s ∷ ss) = refl
undone_kept (suc k) [] = refl
undone_kept (suc k) (s ∷ ss) = ap (λ rs. room_kept s ∷ rs) (undone_kept k ss)

abbrev pub view : List BookedRoom → List BookedRoom → RoomsView
view a b = record { rooms = a; kept = b }

pub view_of : (a b c d : List BookedRoom) → a ≡ c → b ≡ d → view a b ≡ view c d
view_of a b c d e f = rw (e, f) refl

-- Bookings of an event.

not_taken_one : (n : ℕ) (t : Tree) (series : Option Series) (m : ℕ) (r : RoomView) (lives named : Bool) (ss : List Slot) → names_calendar m (data_of t) ≡ named → (lives && named) ≡ false
    → rooms_now (map (retired n) ss) ≡ map (booked_again n (Some t) series) (rooms_now ss)
    → rooms_now (map (retired n) (slot m r lives ∷ ss)) ≡ map (booked_again n (Some t) series) (rooms_now (slot m r lives ∷ ss))
not_taken_one n t series m r true true ss e g h = absurd (false≢true (sym g))
not_taken_one n t series m r true false ss e g h = rw e (ap (λ rs. room_without n (room_now (slot m r true)) ∷ rs) h)
not_taken_one n t series m r false named ss e g h = h

-- an event that is in no calendar that has a room
pub not_taken : (n : ℕ) (t : Tree) (series : Option Series) (ss : List Slot) → list_any (is_booked_by (data_of t)) (map (retired n) ss) ≡ false
    → rooms_now (map (retired n) ss) ≡ map (booked_again n (Some t) series) (rooms_now ss)
not_taken n t series [] h = refl
not_taken n t series (s ∷ ss) h =
    let parts = or_false (is_booked_by (data_of t) (retired n s)) (list_any (is_booked_by (data_of t)) (map (retired n) ss)) h in
    not_taken_one n t series s.calendar s.room s.live (names_calendar s.calendar (data_of t)) ss refl parts.0 (not_taken n t series ss parts.1)

taken_one : (n : ℕ) (t : Tree) (series : Series) (m : ℕ) (r : RoomView) (lives named : Bool) (ss : List Slot) → names_calendar m (data_of t) ≡ named
    → rooms_now (map (booked n (data_of t) series) (map (retired n) ss)) ≡ map (booked_again n (Some t) (Some series)) (rooms_now ss)
    → rooms_now (map (booked n (data_of t) series) (map (retired n) (slot m r lives ∷ ss))) ≡ map (booked_again n (Some t) (Some series)) (rooms_now (slot m r lives ∷ ss))
taken_one n t series m r true true ss e h = rw e (ap (λ rs. record { calendar = m; bookings = with_booking n series (without_booking n r.bookings) } ∷ rs) h)
taken_one n t series m r true false ss e h = rw e (ap (λ rs. room_without n (room_now (slot m r true)) ∷ rs) h)
taken_one n t series m r false named ss e h = h

-- an event whose series is booked
pub taken : (n : ℕ) (t : Tree) (series : Series) (ss : List Slot)
    → rooms_now (map (booked n (data_of t) series) (map (retired n) ss)) ≡ map (booked_again n (Some t) (Some series)) (rooms_now ss)
taken n t series [] = refl
taken n t series (s ∷ ss) = taken_one n t series s.calendar s.room s.live (names_calendar s.calendar (data_of t)) ss refl (taken n t series ss)

abbrev MayBook : List BookedRoom → Tree → Option Series → Type 0
MayBook rs t series = (n : ℕ) → has_room n rs ≡ true → names_calendar n (data_of t) ≡ true → IsShortSeries series

short_one : (t : Tree) (series : Option Series) (m : ℕ) (r : RoomView) (lives named there : Bool) (ss : List Slot) → names_calendar m (data_of t) ≡ named → ((lives && named) || there) ≡ true
    → MayBook (rooms_now (slot m r lives ∷ ss)) t series → (MayBook (rooms_now ss) t series → there ≡ true → IsShortSeries series) → IsShortSeries series
short_one t series m r true true there ss e h may rest = may m (rw (number_same m m refl) refl) e
short_one t series m r true false there ss e h may rest = rest (λ k g. may k (or_right (m == k) (has_room k (rooms_now ss)) g)) h
short_one t series m r false named there ss e h may rest = rest may h

-- an event that is in a calendar that has a room has a series that may be booked
pub short_series : (n : ℕ) (t : Tree) (series : Option Series) (ss : List Slot) → MayBook (rooms_now ss) t series → list_any (is_booked_by (data_of t)) (map (retired n) ss) ≡ true → IsShortSeries series
short_series n t series [] may h = absurd (false≢true h)
short_series n t series (s ∷ ss) may h =
    short_one t series s.calendar s.room s.live (names_calendar s.calendar (data_of t)) (list_any (is_booked_by (data_of t)) (map (retired n) ss)) ss refl h may (λ more. short_series n t series ss more)

pub week_of : (series : Series) → IsShortSeries (Some series) → IsWeekLong series
week_of series short = subst IsWeekLong (same_Some short.series series (sym short.is)) short.week
