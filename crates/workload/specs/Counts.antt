-- What is counted of the replies to a workload's calls.
use Rattle.std.specs.Prelude.{ℕ, ◌+◌, List, [], ◌∷◌, ◌++◌, Bool, false, Option, Some, None, codes, decimal, if◌then◌else◌, is_some, length, option_and_then, unwrap_or}
use Rattle.std.specs.Option.{option_map_or}
use Rattle.std.specs.Str.{bytes_eq}
use Rattle.spec_calls.specs.declared.call.Reply.{Reply}
use Rattle.spec_json.specs.Data.{Data, field}
use Rattle.time_text.specs.State.{state_in}
use Rattle.spec_json.specs.Parts.{list_at, object_at, text_at, truth_at}
use Rattle.spec_json.specs.TreeData.{data_of}
use Rattle.workload.specs.Generated.{creation_id}
use Rattle.workload.specs.declared.numbers.Numbers.{Numbers}

-- ---- the reply to a create (RFC 8620 section 5.3)

-- the object was created
abbrev pub has_created : Reply → Bool
has_created r = is_some (object_at (codes "created") (data_of r.arguments))

-- the SetError of the object that wasn't created
abbrev pub create_error : Reply → Option Data
create_error r = option_and_then (field creation_id) (field (codes "notCreated") (data_of r.arguments))

abbrev pub is_clash_error : Data → Bool
is_clash_error error = bytes_eq (unwrap_or (text_at (codes "type") error) []) (codes "clash")

-- the object was refused as a clash
abbrev pub is_refused_as_clash : Reply → Bool
is_refused_as_clash r = option_map_or is_clash_error (create_error r) false

-- ---- a page of changes (RFC 8620 section 5.2)

abbrev pub has_more : Reply → Bool
has_more r = unwrap_or (truth_at (codes "hasMoreChanges") (data_of r.arguments)) false

abbrev pub new_state : Reply → List ℕ
new_state r = unwrap_or (text_at (codes "newState") (data_of r.arguments)) []

-- the state that the next page begins at, where there are more changes
abbrev pub next_page_state : Reply → Option (List ℕ)
next_page_state r = if has_more r then Some (new_state r) else None

-- how many ids one of its lists has
abbrev pub count_listed : List ℕ → Reply → ℕ
count_listed key r = length (unwrap_or (list_at key (data_of r.arguments)) [])

abbrev pub count_of_ids : Reply → ℕ
count_of_ids r = count_listed (codes "created") r + count_listed (codes "updated") r + count_listed (codes "destroyed") r

-- the number of changes that a state stands for
abbrev pub state_number : List ℕ → ℕ
state_number state = option_map_or (λ s. s.number) (state_in state) 0

-- ---- what is written

abbrev pub line : List ℕ → ℕ → List ℕ
line name number = name ++ 32 ∷ decimal number ++ 10 ∷ []

-- the four lines of a workload
abbrev pub lines : Numbers → List ℕ
lines n = line (codes "bookings") n.bookings ++ line (codes "clashes") n.clashes ++ line (codes "entries") n.entries ++ line (codes "changed") n.changed
