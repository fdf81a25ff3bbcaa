-- Rooms are those of the live objects alone, whatever else a history was.
use Rattle.std.proofs.Common.{◌≡◌, ◌∙◌, ◌≤◌, ◌++◌, ℕ, List, [], ◌∷◌, Bool, true, false, cond, Option, Some, None, filter, flat_map, is_some, length, map, option_and_then, refl, sym, ap, subst}
use Rattle.std.proofs.lemmas.Bool.{false≢true}
use Rattle.std.specs.Prelude.{nat_lt}
use Rattle.std.specs.Cmp.{IsStrictWeakOrder}
use Rattle.spec_bookings.proofs.Numbered.{resource_is_live}
use Rattle.spec_bookings.specs.BookedResources.{booked_in, bookings_of}
use Rattle.spec_bookings.specs.Free.{IsFree}
use Rattle.spec_bookings.specs.HistoryBookings.{booked_by, booking_of}
use Rattle.spec_bookings.specs.Resources.{is_resource, resources_at, zone_of_resource}
use Rattle.spec_bookings.specs.declared.booking.Booking.{Booking}
use Rattle.spec_bookings.specs.declared.limits.TheConstants.{MAX_BOOKINGS}
use Rattle.spec_history.specs.History.{ids_at, live_object}
use Rattle.spec_history.specs.declared.entry.Change.{Change}
use Rattle.spec_history.specs.declared.entry.Kind.TheVariants.{Calendar, Event}
use Rattle.spec_json.proofs.InOrderLemmas.{in_order_filter}
use Rattle.spec_json.specs.InOrder.{in_order}
use Rattle.spec_json.specs.declared.tree.Tree.{Tree}
use Rattle.spec_site.specs.TimeZones.{ZoneText}
use Rattle.account_rooms.specs.PutAgain.{ArePutAgain}
use Rattle.account_rooms.specs.Rooms.{AreRooms, BookedRoom, room_at}

-- leaving out what another test leaves out too
weaker_by : (p q : ℕ → Bool) (n : ℕ) (ns ms : List ℕ) (a b : Bool) → p n ≡ a → q n ≡ b → (a ≡ true → b ≡ true) → filter p ms ≡ filter p ns → filter p (cond b (n ∷ ms) ms) ≡ cond a (n ∷ filter p ns) (filter p ns)
weaker_by p q n ns ms true true e f h rest = rw e (ap (λ l. n ∷ l) rest)
weaker_by p q n ns ms false true e f h rest = rw e rest
weaker_by p q n ns ms false false e f h rest = rest
weaker_by p q n ns ms true false e f h rest = absurd (false≢true (h refl))

pub weaker : (p q : ℕ → Bool) → ((n : ℕ) → p n ≡ true → q n ≡ true) → (ns : List ℕ) → filter p (filter q ns) ≡ filter p ns
weaker p q h [] = refl
weaker p q h (n ∷ ns) = weaker_by p q n ns (filter q ns) (p n) (q n) refl refl (h n) (weaker p q h ns)

-- leaving out what gives nothing
given_by : {X : Type 0} (f : ℕ → List X) (p : ℕ → Bool) (n : ℕ) (ns : List ℕ) (b : Bool) → p n ≡ b → (p n ≡ false → f n ≡ []) → flat_map f (filter p ns) ≡ flat_map f ns
    → flat_map f (cond b (n ∷ filter p ns) (filter p ns)) ≡ f n ++ flat_map f ns
given_by f p n ns true e h rest = ap (λ l. f n ++ l) rest
given_by f p n ns false e h rest = rest ∙ ap (λ l. l ++ flat_map f ns) (sym (h e))

pub given : {X : Type 0} (f : ℕ → List X) (p : ℕ → Bool) → ((n : ℕ) → p n ≡ false → f n ≡ []) → (ns : List ℕ) → flat_map f (filter p ns) ≡ flat_map f ns
given f p h [] = refl
given f p h (n ∷ ns) = given_by f p n ns (p n) refl (h n) (given f p h ns)

module _ (order : IsStrictWeakOrder nat_lt) (zones : List ZoneText) (again cs : List Change) (are : ArePutAgain again cs) where
  none_booked : (n m : ℕ) (o : Option Tree) → is_some o ≡ false → booking_of m (booked_by (booked_in zones n) o) ≡ []
  none_booked n m None h = refl
  none_booked n m (Some t) h = absurd (false≢true (sym h))

  same_bookings : (n : ℕ) → bookings_of zones again n ≡ bookings_of zones cs n
  same_bookings n =
      let f : ℕ → List Booking = λ m. booking_of m (booked_by (booked_in zones n) (live_object cs Event m)) in
      (λ i. flat_map (λ m. booking_of m (booked_by (booked_in zones n) (are.objects Event m i))) (in_order nat_lt (ids_at again Event)))
      ∙ ap (λ ns. flat_map f (in_order nat_lt ns)) (are.numbers Event)
      ∙ ap (flat_map f) (sym (in_order_filter nat_lt order (λ m. is_some (live_object cs Event m)) (ids_at cs Event)))
      ∙ given f (λ m. is_some (live_object cs Event m)) (λ m h. none_booked n m (live_object cs Event m) h) (in_order nat_lt (ids_at cs Event))

  same_resource : (n : ℕ) → is_resource again n ≡ is_resource cs n
  same_resource n = ap (λ o. is_some (option_and_then zone_of_resource o)) (are.objects Calendar n)

  same_resources : resources_at again ≡ resources_at cs
  same_resources =
      (λ i. filter (λ n. same_resource n i) (ids_at again Calendar)) ∙ ap (filter (is_resource cs)) (are.numbers Calendar)
      ∙ weaker (is_resource cs) (λ n. is_some (live_object cs Calendar n)) (λ n h. resource_is_live cs n h) (ids_at cs Calendar)

  same_room : (n : ℕ) → room_at zones again n ≡ room_at zones cs n
  same_room n = ap (λ (bs : List Booking). record { calendar = n; bookings = bs }) (same_bookings n)

  -- so their rooms are the same
  pub same_rooms : (rs : List BookedRoom) → AreRooms zones again rs → AreRooms zones cs rs
  same_rooms rs h = record {
    rooms = h.rooms ∙ (λ i. map (λ n. same_room n i) (resources_at again)) ∙ ap (map (room_at zones cs)) same_resources;
    free = λ n r. subst IsFree (same_bookings n) (h.free n (same_resource n ∙ r));
    few = λ n r. subst (λ (bs : List Booking). length bs ≤ MAX_BOOKINGS) (same_bookings n) (h.few n (same_resource n ∙ r));
    none = λ n gone. sym (same_bookings n) ∙ h.none n (are.objects Calendar n ∙ gone);
  }
