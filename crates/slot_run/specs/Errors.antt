-- What an error tells of an answer.
use Rattle.std.specs.Prelude.{◌≡◌, Bool, Result, Ok, Err, true, false, ⊤}
use Rattle.slot_run.specs.declared.refusal.Refusal.{Refusal}
use Rattle.slot_run.specs.declared.refusal.SlotError.{SlotError}
use Rattle.slot_run.specs.declared.refusal.SlotError.TheVariants.{NoMemory, Refused}
use Rattle.spec_slots.specs.declared.slot.FoundSlot.{FoundSlot}

abbrev pub IsError : Result FoundSlot Refusal → SlotError → Type 0
IsError answer (Refused refusal) = answer ≡ Err refusal
IsError answer NoMemory = ⊤

abbrev pub is_refusal : Result FoundSlot Refusal → Bool
is_refusal (Ok found) = false
is_refusal (Err refusal) = true
