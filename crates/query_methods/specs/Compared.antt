-- Items that hold what an order compares alone.
use Rattle.std.specs.Prelude.{List, [], ◌∷◌, Option, pos, option_map}
use Rattle.spec_json.specs.declared.tree.Tree.{Tree}
use Rattle.spec_queries.specs.declared.comparator.Comparator.{Comparator}
use Rattle.spec_queries.specs.declared.comparator.Property.{Property}
use Rattle.spec_queries.specs.declared.comparator.Property.TheVariants.{Start, Uid, Title, Created, Updated}
use Rattle.spec_queries.specs.declared.item.Item.{Item}

-- an item that holds nothing
abbrev pub blank : Item
blank = record { start = pos 0; uid = []; title = []; created = pos 0; updated = pos 0 }

-- the item, where it has a property of another
abbrev pub with_property : Item → Property → Item → Item
with_property whole Start item = record { start = whole.start; uid = item.uid; title = item.title; created = item.created; updated = item.updated }
with_property whole Uid item = record { start = item.start; uid = whole.uid; title = item.title; created = item.created; updated = item.updated }
with_property whole Title item = record { start = item.start; uid = item.uid; title = whole.title; created = item.created; updated = item.updated }
with_property whole Created item = record { start = item.start; uid = item.uid; title = item.title; created = whole.created; updated = item.updated }
with_property whole Updated item = record { start = item.start; uid = item.uid; title = item.title; created = item.created; updated = whole.updated }

-- the same for each property that these comparators compare
abbrev pub with_compared : Item → List Comparator → Item → Item
with_compared whole [] item = item
with_compared whole (c ∷ cs) item = with_compared whole cs (with_property whole c.property item)

abbrev pub compared : List Comparator → Item → Item
compared order whole = with_compared whole order blank

-- what a query sees of an event's object, as far as an order compares it
abbrev pub seen_in : List Comparator → (Tree → Option Item) → Tree → Option Item
seen_in order see event = option_map (compared order) (see event)
