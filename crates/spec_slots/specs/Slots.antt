-- The first quarter of an hour at which a series could be booked, and what stands against each earlier one.
use Rattle.std.specs.Prelude.{◌≡◌, ◌<ℤ◌, ℤ, List, [], ◌∷◌, Option, Some, None, All, IfSome, find, is_none}
use Rattle.std.specs.List.{Contains}
use Rattle.std.specs.Option.{option_map_or}
use Rattle.spec_json.specs.Data.{Data}
use Rattle.spec_bookings.specs.declared.booking.Booking.{Booking}
use Rattle.spec_bookings.specs.declared.clash.Clash.{Clash}
use Rattle.spec_slots.specs.Quarters.{IsQuarterOf, quarters}
use Rattle.spec_slots.specs.Wishes.{wish_clash}
use Rattle.spec_slots.specs.declared.slot.FoundSlot.{FoundSlot}
use Rattle.spec_slots.specs.declared.slot.Tried.{Tried}
use Rattle.spec_time.specs.declared.length.Length.{Length}

-- In what follows `clash` tells what stands against a start, if anything does.

-- the first of these starts against which nothing stands
abbrev pub first_free : (ℤ → Option Clash) → List ℤ → Option ℤ
first_free clash xs = find (λ x. is_none (clash x)) xs

-- those before it, each with what stands against it
abbrev pub tried_of : (ℤ → Option Clash) → List ℤ → List Tried
tried_of clash [] = []
tried_of clash (x ∷ xs) = option_map_or (λ c. record { start = x; clash = c } ∷ tried_of clash xs) (clash x) []

abbrev pub slot_among : (ℤ → Option Clash) → List ℤ → FoundSlot
slot_among clash xs = record { start = first_free clash xs; tried = tried_of clash xs }

-- what is found for a wish beside some bookings, among the quarters from a wall second on up to but without another
abbrev pub wished_slot : List Booking → Length → Data → ℤ → ℤ → FoundSlot
wished_slot bs length rules from to = slot_among (wish_clash bs length rules) (quarters from to)

-- The same as facts.

-- the wall second lies before this one, if there is one
abbrev pub LiesBefore : Option ℤ → ℤ → Type 0
LiesBefore o x = IfSome o (λ s. x <ℤ s)

-- a quarter before the start, with what stands against it
pub record IsTriedOf (clash : ℤ → Option Clash) (from to : ℤ) (start : Option ℤ) (t : Tried) : Type 0 where
  pub quarter : IsQuarterOf from to t.start
  pub before : LiesBefore start t.start
  pub against : clash t.start ≡ Some t.clash

-- a start that was tried, with what stands against it
pub record IsToldOf (tried : List Tried) (x : ℤ) : Type 0 where
  pub told : Tried
  pub start : told.start ≡ x
  pub contained : Contains tried told

-- nothing stands against the start, against each earlier quarter something does and is told, and nothing else is told
pub record IsSlot (clash : ℤ → Option Clash) (from to : ℤ) (found : FoundSlot) : Type 0 where
  pub quarter : IfSome found.start (IsQuarterOf from to)
  pub free : IfSome found.start (λ x. clash x ≡ None)
  pub tried : All (IsTriedOf clash from to found.start) found.tried
  pub each : (x : ℤ) → IsQuarterOf from to x → LiesBefore found.start x → IsToldOf found.tried x
