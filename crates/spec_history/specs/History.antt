-- What the changes of a history say of the objects of an account.
use Rattle.std.specs.Prelude.{ℕ, suc, List, [], ◌∷◌, ◌++◌, ◌==◌, ◌&&◌, Bool, true, false, Option, Some, None, length, if◌then◌else◌, count_by, flat_map, map}
use Rattle.std.specs.List.{list_any}
use Rattle.spec_history.specs.declared.entry.Change.{Change}
use Rattle.spec_history.specs.declared.entry.Entry.{Entry}
use Rattle.spec_history.specs.declared.entry.Kind.{Kind}
use Rattle.spec_history.specs.declared.entry.Kind.TheVariants.{Calendar, Event}
use Rattle.spec_json.specs.declared.tree.Tree.{Tree}

abbrev pub is_kind : Kind → Kind → Bool
is_kind Calendar Calendar = true
is_kind Event Event = true
is_kind Calendar Event = false
is_kind Event Calendar = false

abbrev pub changes_of : List Entry → List Change
changes_of h = map (λ e. e.change) h

-- the change names this object
abbrev pub names : Kind → ℕ → Change → Bool
names kind id c = is_kind kind c.kind && (id == c.id)

-- the object after some changes: that of the last change that names it, or what it was before them
abbrev pub object_from : Option Tree → List Change → Kind → ℕ → Option Tree
object_from before [] kind id = before
object_from before (c ∷ cs) kind id = object_from (if names kind id c then c.object else before) cs kind id

-- the object of a kind and number, where it is live
abbrev pub live_object : List Change → Kind → ℕ → Option Tree
live_object cs kind id = object_from None cs kind id

-- the numbers with this one, which goes last where it is new
abbrev pub with_id : List ℕ → ℕ → List ℕ
with_id ids id = if list_any (λ n. n == id) ids then ids else ids ++ id ∷ []

abbrev pub ids_from : List ℕ → List Change → Kind → List ℕ
ids_from ids [] kind = ids
ids_from ids (c ∷ cs) kind = ids_from (if is_kind kind c.kind then with_id ids c.id else ids) cs kind

-- the different numbers of a kind, in the order in which they were first named, which is that of creation
abbrev pub ids_at : List Change → Kind → List ℕ
ids_at cs kind = ids_from [] cs kind

-- the number that the next object of a kind gets
abbrev pub next_number : List Change → Kind → ℕ
next_number cs kind = suc (length (ids_at cs kind))

-- the number of changes of a kind, which is that of its state (RFC 8620 section 5.1)
abbrev pub count_of_kind : List Change → Kind → ℕ
count_of_kind cs kind = count_by (λ c. is_kind kind c.kind) cs

abbrev pub some_object : Option Tree → List Tree
some_object None = []
some_object (Some t) = t ∷ []

-- the live objects of a kind, in order of creation
abbrev pub live_at : List Change → Kind → List Tree
live_at cs kind = flat_map (λ id. some_object (live_object cs kind id)) (ids_at cs kind)
