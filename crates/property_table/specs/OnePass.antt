-- The names that fail, found in one pass over an object's members and a look-up for each required name.
use Rattle.std.specs.Prelude.{ℕ, List, [], ◌∷◌, ◌&&◌, not, Bool, Some, filter, is_some, if◌then◌else◌}
use Rattle.spec_json.specs.Data.{Pair, lookup}
use Rattle.spec_json.specs.Parts.{is_null}
use Rattle.property_table.specs.Names.{put_name}
use Rattle.property_table.specs.Table.{Table, keys_of, test_at}

-- a member that isn't null and fails
abbrev pub fails_given : Table → Pair → Bool
fails_given t p = not (is_null p.1) && not (test_at t p.0 (Some p.1))

abbrev pub failing_keys : Table → List Pair → List (List ℕ)
failing_keys t ps = keys_of (filter (fails_given t) ps)

-- the names with those put in at which there is no value
abbrev pub with_missing : List Pair → List (List ℕ) → List (List ℕ) → List (List ℕ)
with_missing ps [] names = names
with_missing ps (n ∷ ns) names = with_missing ps ns (if is_some (lookup n ps) then names else put_name n names)
