-- What is written of a look for a slot.
use Rattle.std.specs.Prelude.{ℕ, List, [], ◌∷◌, ◌++◌, Result, Ok, Err, codes}
use Rattle.slot_run.specs.declared.refusal.Refusal.{Refusal}
use Rattle.slot_run.specs.declared.refusal.Refusal.TheVariants.{AccountNotFound, CalendarNotFound, InvalidArguments, NotJson}
use Rattle.spec_json.specs.Data.{Data, text, object, members_of}
use Rattle.spec_json.specs.Json.{text_of}
use Rattle.spec_slots.specs.Texts.{start_data, tried_list}
use Rattle.spec_slots.specs.declared.slot.FoundSlot.{FoundSlot}

abbrev pub found_data : FoundSlot → Data
found_data f = object (members_of ((codes "slot", start_data f.start) ∷ (codes "tried", tried_list f.tried) ∷ []))

abbrev pub refusal_type : Refusal → List ℕ
refusal_type NotJson = codes "notJSON"
refusal_type InvalidArguments = codes "invalidArguments"
refusal_type AccountNotFound = codes "accountNotFound"
refusal_type CalendarNotFound = codes "calendarNotFound"

abbrev pub answer_data : Result FoundSlot Refusal → Data
answer_data (Ok found) = found_data found
answer_data (Err refusal) = object (members_of ((codes "type", text (refusal_type refusal)) ∷ []))

-- the compact text, and a line feed
abbrev pub answer_text : Result FoundSlot Refusal → List ℕ
answer_text answer = text_of (answer_data answer) ++ 10 ∷ []
