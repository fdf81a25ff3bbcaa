-- What one change more says.
use Rattle.std.proofs.Common.{◌≡◌, ◌==◌, Bool, true, false, cond, ℕ, List, [], ◌∷◌, ◌++◌, Option, None, is_some, option_and_then, if◌then◌else◌, refl, ap, ◌∙◌}
use Rattle.spec_history.specs.History.{ids_from, is_kind, live_object, names, object_from, with_id}
use Rattle.spec_history.specs.Pages.{is_in}
use Rattle.spec_history.specs.declared.entry.Change.{Change}
use Rattle.spec_history.specs.declared.entry.Kind.{Kind}
use Rattle.spec_history.specs.declared.entry.Kind.TheVariants.{Calendar, Event}
use Rattle.spec_json.specs.declared.tree.Tree.{Tree}
use Rattle.spec_bookings.specs.BookedResources.{booked_in, bookings_of}
use Rattle.spec_bookings.specs.Resources.{is_resource, zone_of_resource}
use Rattle.spec_bookings.specs.Bookings.{without_booking}
use Rattle.spec_site.specs.TimeZones.{ZoneText}
use Rattle.spec_bookings.proofs.Folded.{change_more}
use Rattle.spec_bookings.specs.AfterChange.{with_booked}
use Rattle.spec_bookings.specs.HistoryBookings.{booked_by}

abbrev pub change : Kind → ℕ → Option Tree → Change
change kind id o = record { kind = kind; id = id; object = o }

object_more : (cs : List Change) (c : Change) (before : Option Tree) (kind : Kind) (id : ℕ) → object_from before (cs ++ c ∷ []) kind id ≡ (if names kind id c then c.object else object_from before cs kind id)
object_more [] c before kind id = refl
object_more (d ∷ cs) c before kind id = object_more cs c _ kind id

pub ids_from-push : (cs : List Change) (ids : List ℕ) (c : Change) (kind : Kind) → ids_from ids (cs ++ c ∷ []) kind ≡ cond (is_kind kind c.kind) (with_id (ids_from ids cs kind) c.id) (ids_from ids cs kind)
ids_from-push [] ids c kind = refl
ids_from-push (d ∷ cs) ids c kind = ids_from-push cs _ c kind

pub event_leaves_calendars : (cs : List Change) (id : ℕ) (o : Option Tree) (n : ℕ) → live_object (cs ++ change Event id o ∷ []) Calendar n ≡ live_object cs Calendar n
event_leaves_calendars cs id o n = object_more cs (change Event id o) None Calendar n

pub event_leaves_resources : (cs : List Change) (id : ℕ) (o : Option Tree) (n : ℕ) → is_resource (cs ++ change Event id o ∷ []) n ≡ is_resource cs n
event_leaves_resources cs id o n = ap (λ p. is_some (option_and_then zone_of_resource p)) (event_leaves_calendars cs id o n)

pub event_bookings : (zones : List ZoneText) (cs : List Change) (id : ℕ) (o : Option Tree) (n : ℕ)
    → bookings_of zones (cs ++ change Event id o ∷ []) n ≡ with_booked id (booked_by (booked_in zones n) o) (without_booking id (bookings_of zones cs n))
event_bookings zones cs id o n = change_more (booked_in zones n) cs (change Event id o)

pub calendar_now : (cs : List Change) (id : ℕ) (o : Option Tree) (n : ℕ) → live_object (cs ++ change Calendar id o ∷ []) Calendar n ≡ (if n == id then o else live_object cs Calendar n)
calendar_now cs id o n = object_more cs (change Calendar id o) None Calendar n

abbrev pub is_of_resource : Option Tree → Bool
is_of_resource o = is_some (option_and_then zone_of_resource o)

choose : (b : Bool) (o p : Option Tree) → is_of_resource (if b then o else p) ≡ (if b then is_of_resource o else is_of_resource p)
choose true o p = refl
choose false o p = refl

pub resource_now : (cs : List Change) (id : ℕ) (o : Option Tree) (n : ℕ) → is_resource (cs ++ change Calendar id o ∷ []) n ≡ (if n == id then is_of_resource o else is_resource cs n)
resource_now cs id o n = ap is_of_resource (calendar_now cs id o n) ∙ choose (n == id) o (live_object cs Calendar n)

pub calendar_bookings : (zones : List ZoneText) (cs : List Change) (id : ℕ) (o : Option Tree) (n : ℕ) → bookings_of zones (cs ++ change Calendar id o ∷ []) n ≡ bookings_of zones cs n
calendar_bookings zones cs id o n = change_more (booked_in zones n) cs (change Calendar id o)

-- a number that was given adds nothing
pub with_known : (ids : List ℕ) (id : ℕ) → is_in ids id ≡ true → with_id ids id ≡ ids
with_known ids id known = rw known refl

pub with_new : (ids : List ℕ) (id : ℕ) → is_in ids id ≡ false → with_id ids id ≡ ids ++ id ∷ []
with_new ids id new = rw new refl
