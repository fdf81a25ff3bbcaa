-- The part of an event that a patch looks at.
use Rattle.std.specs.Prelude.{◌≡◌, ℕ, List, [], ◌∷◌, ◌++◌, ◌||◌, Bool, true, false, Option, Some, None, codes, filter, not}
use Rattle.std.specs.List.{list_all}
use Rattle.std.specs.Option.{option_map_or}
use Rattle.spec_json.specs.Data.{Data, Pair, lookup, members_of, object}
use Rattle.spec_json.specs.Edit.{with_pair}
use Rattle.spec_json.specs.Parts.{some_of}
use Rattle.spec_json.specs.Pointer.{parts}
use Rattle.property_table.specs.Names.{has_name}
use Rattle.property_table.specs.Table.{Table, failing, required_names}

-- the members with these names
abbrev pub kept : (List ℕ → Bool) → List Pair → List Pair
kept f ps = filter (λ p. f p.0) ps

-- a part of some members with that of this name, none where they have none; one that is there stays
abbrev pub put_missing : List ℕ → Option Data → Option Data → List Pair → List Pair
put_missing name (Some d) found part = part
put_missing name None None part = part
put_missing name None (Some d) part = with_pair name d part

abbrev pub with_member : List ℕ → List Pair → List Pair → List Pair
with_member name ps part = put_missing name (lookup name part) (lookup name ps) part

-- and with those of all these names
abbrev pub with_each_member : List (List ℕ) → List Pair → List Pair → List Pair
with_each_member [] ps part = part
with_each_member (name ∷ names) ps part = with_each_member names ps (with_member name ps part)

-- an object of these members
abbrev pub object_of : List Pair → Data
object_of ps = object (members_of ps)

abbrev pub first_part : Option (List (List ℕ)) → Option (List ℕ)
first_part None = None
first_part (Some []) = None
first_part (Some (p ∷ ps)) = Some p

-- the first parts of the keys of a patch
abbrev pub firsts_of : List Pair → List (List ℕ)
firsts_of [] = []
firsts_of (p ∷ patch) = some_of (first_part (parts p.0)) ++ firsts_of patch

-- what an event must have, and what says when it is and whether it takes up the time
abbrev pub always_needed : List (List ℕ)
always_needed = codes "uid" ∷ codes "calendarIds" ∷ codes "start" ∷ codes "duration" ∷ codes "status" ∷ codes "freeBusyStatus" ∷ []

-- the property tells whether a patch with these first parts makes a valid event, and when that is
abbrev pub is_needed : List (List ℕ) → List ℕ → Bool
is_needed firsts name = has_name always_needed name || has_name firsts name

-- all of these names are needed
unfoldable pub are_all_needed : List (List ℕ) → List (List ℕ) → Bool
are_all_needed firsts names = list_all (is_needed firsts) names

-- the members that are needed
unfoldable pub part_with : List (List ℕ) → List Pair → List Pair
part_with firsts ps = kept (is_needed firsts) ps

-- the path begins with one of these names, or with none of them; no path does both
abbrev pub begins_in : (List ℕ → Bool) → List (List ℕ) → Bool
begins_in f [] = true
begins_in f (p ∷ ps) = f p

abbrev pub begins_out : (List ℕ → Bool) → List (List ℕ) → Bool
begins_out f [] = true
begins_out f (p ∷ ps) = not (f p)

-- every key of a patch that is a pointer begins with one of these names, or none does
abbrev pub all_begin_in : (List ℕ → Bool) → List Pair → Bool
all_begin_in f patch = list_all (λ p. option_map_or (begins_in f) (parts p.0) true) patch

abbrev pub none_begins_in : (List ℕ → Bool) → List Pair → Bool
none_begins_in f patch = list_all (λ p. option_map_or (begins_out f) (parts p.0) true) patch

-- `part` has the values of `whole` at these names, among which are all that a table requires, and no others; at all other names `whole` has those of `event`
pub record IsPartOf (t : Table) (f : List ℕ → Bool) (whole part event : List Pair) : Type 0 where
  pub inside : (n : List ℕ) → f n ≡ true → lookup n whole ≡ lookup n part
  pub outside : (n : List ℕ) → f n ≡ false → lookup n whole ≡ lookup n event
  pub nothing_else : (n : List ℕ) → f n ≡ false → lookup n part ≡ None
  pub has_required : (n : List ℕ) → f n ≡ false → has_name (required_names t) n ≡ false

-- nothing fails in the whole exactly where nothing fails in the part, and what fails in the event has one of these names
pub record IsTestedByPart (t : Table) (f : List ℕ → Bool) (whole part event : List Pair) : Type 0 where
  pub to : failing t whole ≡ [] → (failing t part ≡ []) × (list_all f (failing t event) ≡ true)
  pub from : failing t part ≡ [] → list_all f (failing t event) ≡ true → failing t whole ≡ []
