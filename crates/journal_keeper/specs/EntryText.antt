-- The text of an entry: the compact JSON text of one object.
use Rattle.std.specs.Prelude.{◌≡◌, ◌<◌, ◌≤◌, ◌^◌, ℕ, pos, List, [], ◌∷◌, Option, Some, None, codes, ⊤}
use Rattle.spec_history.specs.MostTurns.{most_turns}
use Rattle.spec_history.specs.declared.entry.Change.{Change}
use Rattle.spec_history.specs.declared.entry.Entry.{Entry}
use Rattle.spec_history.specs.declared.entry.Kind.{Kind}
use Rattle.spec_history.specs.declared.entry.Kind.TheVariants.{Calendar, Event}
use Rattle.spec_history.specs.declared.stamp.Stamp.{Stamp}
use Rattle.spec_json.specs.Data.{Data, Pair, depth, members_of, null, object, text, whole}
use Rattle.spec_json.specs.Json.{reading, text_of, value}
use Rattle.spec_json.specs.TreeData.{data_of}
use Rattle.spec_json.specs.declared.tree.Tree.{Tree}
use Rattle.spec_json.specs.declared.tree.Tree.TheVariants.{Null, Truth, Whole, Text, List as Listed, Object}
use Rattle.spec_time.specs.Moments.{IsMoment}

abbrev pub kind_name : Kind → List ℕ
kind_name Calendar = codes "calendar"
kind_name Event = codes "event"

-- the object that is put, null for a removal
abbrev pub object_data : Option Tree → Data
object_data None = null
object_data (Some t) = data_of t

abbrev pub entry_members : Entry → List Pair
entry_members e =
    (codes "author", whole (pos e.author)) ∷ (codes "id", whole (pos e.change.id)) ∷ (codes "kind", text (kind_name e.change.kind))
    ∷ (codes "moment", whole e.moment) ∷ (codes "object", object_data e.change.object) ∷ (codes "part", whole (pos e.part))
    ∷ (codes "turn", whole (pos e.turn)) ∷ []

abbrev pub entry_data : Entry → Data
entry_data e = object (members_of (entry_members e))

abbrev pub entry_text : Entry → List ℕ
entry_text e = text_of (entry_data e)

-- what is put is an object
abbrev pub IsObjectTree : Option Tree → Type 0
IsObjectTree None = ⊤
IsObjectTree (Some (Object ms)) = ⊤
IsObjectTree (Some Null) = ⊥
IsObjectTree (Some (Truth b)) = ⊥
IsObjectTree (Some (Whole n)) = ⊥
IsObjectTree (Some (Text s)) = ⊥
IsObjectTree (Some (Listed ds)) = ⊥

-- an entry that has a text
pub record IsKeepable (e : Entry) : Type 0 where
  pub author : e.author < 2 ^ 32
  pub id : e.change.id ≤ 2 ^ 40
  pub part : e.part < 2 ^ 32
  pub moment : IsMoment e.moment
  pub turn : e.turn ≤ most_turns
  pub object : IsObjectTree e.change.object
  pub shallow : depth (object_data e.change.object) ≤ 120

-- these bytes are the text of the entry, and are read as its object
pub record IsEntryText (e : Entry) (bytes : List ℕ) : Type 0 where
  pub keepable : IsKeepable e
  pub text : bytes ≡ entry_text e
  pub reads : reading bytes ≡ value (entry_data e)

-- these bytes are the text of no entry
abbrev pub IsNoEntryText : List ℕ → Type 0
IsNoEntryText bytes = (e : Entry) → IsEntryText e bytes → ⊥

-- the entry that a change of a call becomes, at this place among the call's entries
abbrev pub entry_by : Stamp → ℕ → Change → Entry
entry_by stamp part c = record { author = stamp.author; turn = stamp.turn; part = part; moment = stamp.moment; change = c }
