-- A value, its items and its members, to and from plain lists.
use Rattle.std.proofs.Common.{◌≡◌, ℕ, List, refl, ap}
use Rattle.spec_json.specs.Data.{Data, Items, no_items, item, Members, no_members, member, object, field, lookup, list_of, items_of, pairs_of, members_of}
use Rattle.spec_json.specs.Parts.{members_in}

-- a field is looked up among the members
pub field_is : (k : List ℕ) (d : Data) → field k d ≡ lookup k (members_in d)
field_is k (object ms) = refl
field_is k _ = refl

pub items_forth : (is : Items) → items_of (list_of is) ≡ is
items_forth no_items = refl
items_forth (item d is) = ap (item d) (items_forth is)

pub members_forth : (ms : Members) → members_of (pairs_of ms) ≡ ms
members_forth no_members = refl
members_forth (member k d ms) = ap (member k d) (members_forth ms)
