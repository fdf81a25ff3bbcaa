-- Tables of properties: a row for each, with its name and the test of its value (RFC 8620 section 5.3, `invalidProperties`).
use Rattle.std.specs.Prelude.{◌≡◌, ℕ, List, ◌++◌, [], ◌∷◌, ◌&&◌, not, Bool, true, false, Option, Some, None, filter, map, if◌then◌else◌}
use Rattle.std.specs.Str.{bytes_eq}
use Rattle.spec_json.specs.Data.{Data, Pair, lookup}
use Rattle.spec_json.specs.Parts.{is_null, members_in}
use Rattle.property_table.specs.Names.{has_name, in_byte_order, names_rise}

-- a test of the value at a name, None where there is none
abbrev pub Test : Type 0
Test = Option Data → Bool

abbrev pub PropertyRow : Type 0
PropertyRow = List ℕ × Test

-- the rows, and the tests at all other names
pub record Table : Type 0 where
  pub rows : List PropertyRow
  pub other : List ℕ → Test

-- the value may be left out
abbrev pub optional : (Data → Bool) → Test
optional passes None = true
optional passes (Some d) = passes d

-- the value may not be left out
abbrev pub required : (Data → Bool) → Test
required passes None = false
required passes (Some d) = passes d

-- there may be no value
abbrev pub never : Test
never None = true
never (Some d) = false

abbrev pub names_of : List PropertyRow → List (List ℕ)
names_of rows = map (λ row. row.0) rows

abbrev pub keys_of : List Pair → List (List ℕ)
keys_of ps = map (λ p. p.0) ps

-- the test at a name, among these rows
abbrev pub test_among : List PropertyRow → (List ℕ → Test) → List ℕ → Test
test_among [] other name = other name
test_among (row ∷ rows) other name = if bytes_eq row.0 name then row.1 else test_among rows other name

-- the test at a name
abbrev pub test_at : Table → List ℕ → Test
test_at t name = test_among t.rows t.other name

-- the names at which there must be a value
abbrev pub required_names : Table → List (List ℕ)
required_names t = filter (λ name. not (test_at t name None)) (names_of t.rows)

-- the value at this name doesn't pass
abbrev pub fails_at : Table → List Pair → List ℕ → Bool
fails_at t ps name = not (test_at t name (lookup name ps))

-- all names at which the value doesn't pass, in byte order
abbrev pub failing : Table → List Pair → List (List ℕ)
failing t ps = in_byte_order (filter (fails_at t ps) (names_of t.rows ++ keys_of ps))

-- the members that aren't null
abbrev pub given : List Pair → List Pair
given ps = filter (λ p. not (is_null p.1)) ps

-- the names that fail of an object, in which a member that is null counts as left out
abbrev pub failing_of : Table → Data → List (List ℕ)
failing_of t d = failing t (given (members_in d))

-- what `failing` names: in byte order, those names of rows and members that fail, and no others
pub record NamesAllFailing (t : Table) (ps : List Pair) : Type 0 where
  pub rise : names_rise (failing t ps) ≡ true
  pub exact : (name : List ℕ) → has_name (failing t ps) name ≡ (has_name (names_of t.rows ++ keys_of ps) name && fails_at t ps name)
