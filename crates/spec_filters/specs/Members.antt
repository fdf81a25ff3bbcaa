-- The members of the conditions and operators of a filter (RFC 8620 section 5.5, draft JMAP for Calendars).
use Rattle.std.specs.Prelude.{ℕ, List, [], ◌∷◌, ◌&&◌, Bool, true, not, Option, Some, None, codes, option_and_then, if◌then◌else◌}
use Rattle.std.specs.List.{list_any}
use Rattle.spec_events.specs.Values.{is_one_of, is_start}
use Rattle.spec_json.specs.Data.{Data, Pair, lookup}
use Rattle.spec_json.specs.Parts.{as_text, is_null}
use Rattle.property_table.specs.Names.{has_name}
use Rattle.property_table.specs.OnePass.{fails_given}
use Rattle.property_table.specs.Table.{Table, names_of, optional}
use Rattle.property_table.specs.Values.{is_text, is_text_that}

-- A condition has these members. Times are LocalDateTimes in the years 1 to 9998. What another member may be isn't known.
unfoldable pub condition_table : Table
condition_table = record {
  rows =
      (codes "inCalendar", optional is_text)
      ∷ (codes "after", optional (is_text_that is_start))
      ∷ (codes "before", optional (is_text_that is_start))
      ∷ (codes "title", optional is_text)
      ∷ (codes "text", optional is_text)
      ∷ (codes "uid", optional is_text)
      ∷ (codes "participant", optional is_text)
      ∷ (codes "participationStatus", optional is_text)
      ∷ [];
  other = λ name. optional (λ d. true);
}

abbrev pub condition_names : List (List ℕ)
condition_names = names_of (condition_table).rows

abbrev pub operator_names : List (List ℕ)
operator_names = codes "operator" ∷ codes "conditions" ∷ []

abbrev pub is_operator : Data → Bool
is_operator d = is_one_of (codes "AND" ∷ codes "OR" ∷ codes "NOT" ∷ []) d

-- A member that is null counts as left out.

-- the value of a member
abbrev pub unless_null : Data → Option Data
unless_null d = if is_null d then None else Some d

abbrev pub given_at : List ℕ → List Pair → Option Data
given_at key ps = option_and_then unless_null (lookup key ps)

-- the value of a member, where it is a text
abbrev pub text_given : List ℕ → List Pair → Option (List ℕ)
text_given key ps = option_and_then as_text (lookup key ps)

-- some member of a condition has a value of a wrong kind
abbrev pub has_bad_member : List Pair → Bool
has_bad_member ps = list_any (fails_given condition_table) ps

-- some member has none of these names
abbrev pub has_other_than : List (List ℕ) → List Pair → Bool
has_other_than names ps = list_any (λ p. not (is_null p.1) && not (has_name names p.0)) ps
