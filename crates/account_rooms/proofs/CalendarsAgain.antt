-- Rooms after a calendar that is put under a number that none had, whichever it is.
use Rattle.std.proofs.Common.{◌≡◌, ◌∙◌, ◌≤◌, ◌==◌, ◌++◌, ℕ, List, [], ◌∷◌, Bool, true, false, Some, None, length, if◌then◌else◌, arith, refl, sym, ap, subst}
use Rattle.std.proofs.lemmas.Option.{none-some}
use Rattle.account_rooms.proofs.Changes.{calendar_bookings, calendar_now, change, is_of_resource, resource_now}
use Rattle.account_rooms.proofs.Following.{created_rooms, not_live}
use Rattle.account_rooms.specs.RoomChanges.{rooms_by}
use Rattle.account_rooms.specs.Rooms.{AreRooms, BookedRoom}
use Rattle.spec_bookings.proofs.Tables.{same_number}
use Rattle.spec_bookings.specs.BookedResources.{bookings_of}
use Rattle.spec_bookings.specs.Free.{IsFree}
use Rattle.spec_bookings.specs.Resources.{is_resource}
use Rattle.spec_bookings.specs.declared.booking.Booking.{Booking}
use Rattle.spec_bookings.specs.declared.limits.TheConstants.{MAX_BOOKINGS}
use Rattle.spec_history.specs.History.{ids_at, live_object}
use Rattle.spec_history.specs.Pages.{is_in}
use Rattle.spec_history.specs.declared.entry.Change.{Change}
use Rattle.spec_history.specs.declared.entry.Kind.TheVariants.{Calendar}
use Rattle.spec_json.specs.declared.tree.Tree.{Tree}
use Rattle.spec_site.specs.TimeZones.{ZoneText}

module _ (zones : List ZoneText) (cs : List Change) (id : ℕ) (t : Tree) (rs : List BookedRoom) (h : AreRooms zones cs rs) (new : is_in (ids_at cs Calendar) id ≡ false) where
  abbrev after : List Change
  after = cs ++ change Calendar id (Some t) ∷ []

  nothing : bookings_of zones cs id ≡ []
  nothing = h.none id (not_live cs id new)

  -- what holds of no bookings, and of those of each resource
  each : (P : List Booking → Type 0) → P [] → ((n : ℕ) → is_resource cs n ≡ true → P (bookings_of zones cs n)) → (n : ℕ) → is_resource after n ≡ true → P (bookings_of zones after n)
  each P empty was n r = subst P (sym (calendar_bookings zones cs id (Some t) n)) (by_cases (n == id) refl (sym (resource_now cs id (Some t) n) ∙ r))
    where
      by_cases : (same : Bool) → (n == id) ≡ same → (if same then is_of_resource (Some t) else is_resource cs n) ≡ true → P (bookings_of zones cs n)
      by_cases true e z = subst (λ m. P (bookings_of zones cs m)) (sym (same_number n id e)) (subst P (sym nothing) empty)
      by_cases false e z = was n z

  gone_empty : (n : ℕ) → live_object after Calendar n ≡ None → bookings_of zones after n ≡ []
  gone_empty n gone = calendar_bookings zones cs id (Some t) n ∙ by_cases (n == id) refl (sym (calendar_now cs id (Some t) n) ∙ gone)
    where
      by_cases : (same : Bool) → (n == id) ≡ same → (if same then Some t else live_object cs Calendar n) ≡ None → bookings_of zones cs n ≡ []
      by_cases true e g = absurd (none-some t (sym g))
      by_cases false e g = h.none n g

  pub calendar_again : AreRooms zones after (rooms_by Calendar id (Some t) None rs)
  calendar_again = record {
    rooms = ap (rooms_by Calendar id (Some t) None) h.rooms ∙ created_rooms zones cs id t nothing new;
    free = each IsFree (λ x. refl) h.free;
    few = each (λ bs. length bs ≤ MAX_BOOKINGS) (omega arith) h.few;
    none = gone_empty;
  }
