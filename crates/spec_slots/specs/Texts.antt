-- What is told of a slot.
use Rattle.std.specs.Prelude.{ℕ, ℤ, pos, List, [], ◌∷◌, Option, Some, None, codes, length, map, take}
use Rattle.spec_history.specs.ObjectId.{id_text}
use Rattle.spec_history.specs.declared.entry.Kind.TheVariants.{Event}
use Rattle.spec_json.specs.Data.{Data, null, whole, text, list, object, items_of, members_of}
use Rattle.spec_json.specs.declared.tree.Tree.{Tree}
use Rattle.spec_json.specs.declared.tree.Tree.TheVariants.{Object}
use Rattle.spec_slots.specs.declared.limits.TheConstants.{MAX_TRIED}
use Rattle.spec_slots.specs.declared.slot.FoundSlot.{FoundSlot}
use Rattle.spec_slots.specs.declared.slot.Tried.{Tried}
use Rattle.spec_time.specs.LocalTimes.{local_text}

-- the id of the event whose booking stands against the wish, null where two occurrences of the wish meet
abbrev pub with_data : Option ℕ → Data
with_data None = null
with_data (Some n) = text (id_text Event n)

-- a start that was tried, with the first second that would be covered twice
abbrev pub tried_data : Tried → Data
tried_data t = object (members_of
    ((codes "day", whole t.clash.day) ∷ (codes "second", whole (pos t.clash.second)) ∷ (codes "start", text (local_text t.start)) ∷ (codes "with", with_data t.clash.with) ∷ []))

abbrev pub tried_list : List Tried → Data
tried_list ts = list (items_of (map tried_data ts))

abbrev pub start_data : Option ℤ → Data
start_data None = null
start_data (Some x) = text (local_text x)

-- the arguments of the response of an account: of the starts that were tried the first ones, and how many there are
abbrev pub slot_object : List ℕ → FoundSlot → Tree
slot_object account f = Object ((codes "accountId", text account) ∷ (codes "slot", start_data f.start)
    ∷ (codes "tried", tried_list (take MAX_TRIED f.tried)) ∷ (codes "triedTotal", whole (pos (length f.tried))) ∷ [])
