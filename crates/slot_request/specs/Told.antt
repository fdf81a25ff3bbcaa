-- Which wall seconds can be told.
use Rattle.std.specs.Prelude.{◌≡◌, All, IfSome, true}
use Rattle.spec_slots.specs.declared.slot.FoundSlot.{FoundSlot}
use Rattle.spec_time.specs.Walls.{is_in_years}

-- the starts lie in years that a LocalDateTime can tell
pub record AreTold (found : FoundSlot) : Type 0 where
  pub start : IfSome found.start (λ x. is_in_years x ≡ true)
  pub earlier : All (λ t. is_in_years t.start ≡ true) found.tried
