-- The objects of ids, in slots.
use Rattle.std.specs.Prelude.{ℕ, List, [], ◌∷◌, ◌==◌, ◌&&◌, Bool, Option, None, if◌then◌else◌, nat_lt}
use Rattle.object_log.specs.declared.slots.IdSlot.{IdSlot}

module _ {T : Type 0} where
  -- the object in the slot of an id
  abbrev pub object_in : List (IdSlot T) → ℕ → Option T
  object_in [] id = None
  object_in (s ∷ ss) id = if s.id == id then s.object else object_in ss id

  -- the ids rise, from above the one to below the other
  abbrev pub rises : ℕ → ℕ → List (IdSlot T) → Bool
  rises low high [] = nat_lt low high
  rises low high (s ∷ ss) = nat_lt low s.id && rises s.id high ss
