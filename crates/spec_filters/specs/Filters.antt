-- Filters as JSON values (RFC 8620 section 5.5): an object with `operator` joins filters, and any other object is a condition.
use Rattle.std.specs.Prelude.{ℕ, suc, List, [], ◌∷◌, ◌||◌, Bool, true, false, not, Option, Some, None, codes, is_some, nat_lt, unwrap_or, if◌then◌else◌}
use Rattle.std.specs.List.{list_all, list_any, sum}
use Rattle.std.specs.Option.{option_map_or}
use Rattle.std.specs.Str.{bytes_eq}
use Rattle.spec_filters.specs.declared.limits.TheConstants.{MAX_FILTER_PARTS}
use Rattle.spec_filters.specs.Members.{condition_names, given_at, has_bad_member, has_other_than, is_operator, operator_names, text_given}
use Rattle.spec_json.specs.Data.{Data, null, truth, whole, text, list, object, Items, no_items, item, Members, no_members, member, Pair, pairs_of}
use Rattle.spec_json.specs.Parts.{as_text}
use Rattle.property_table.specs.Values.{is_text}

-- What is said of filters, such as whether one holds: of what is none; of a condition, by its members; and of an operator, by the value of
-- `operator`, its members, and what is said of each of its conditions, of which there is no list where `conditions` is none.
pub record FilterMeaning (X : Type 0) : Type 0 where
  pub other : X
  pub condition : List Pair → X
  pub operator : Data → List Pair → Option (List X) → X

module _ {X : Type 0} (m : FilterMeaning X) where
  abbrev mutual
    pub said : Data → X
    said null = m.other
    said (truth b) = m.other
    said (whole n) = m.other
    said (text s) = m.other
    said (list ds) = m.other
    said (object ms) = option_map_or (λ op. m.operator op (pairs_of ms) (said_at ms)) (given_at (codes "operator") (pairs_of ms)) (m.condition (pairs_of ms))

    pub said_at : Members → Option (List X)
    said_at no_members = None
    said_at (member k d ms) = if bytes_eq k (codes "conditions") then said_list d else said_at ms

    pub said_list : Data → Option (List X)
    said_list null = None
    said_list (truth b) = None
    said_list (whole n) = None
    said_list (text s) = None
    said_list (list ds) = Some (said_items ds)
    said_list (object ms) = None

    pub said_items : Items → List X
    said_items no_items = []
    said_items (item d ds) = said d ∷ said_items ds

abbrev pub some_true : List Bool → Bool
some_true bs = list_any (λ b. b) bs

abbrev pub all_true : List Bool → Bool
all_true bs = list_all (λ b. b) bs

-- What is looked for in a filter: whether it is there in what is no filter; in a condition, by its members; in an operator itself, by
-- the value of `operator` and its members; and in an operator without a list of conditions. Else one of the conditions has it.
pub record Sought : Type 0 where
  pub other : Bool
  pub condition : List Pair → Bool
  pub operator : Data → List Pair → Bool
  pub unlisted : Bool

abbrev pub meaning_of : Sought → FilterMeaning Bool
meaning_of s = record {
  other = s.other;
  condition = s.condition;
  operator = λ op ps conditions. s.operator op ps || option_map_or some_true conditions s.unlisted;
}

abbrev pub is_found : Sought → Data → Bool
is_found s d = said (meaning_of s) d

-- what makes a filter bad: that it is no object, a known member with a value of a wrong kind, an `operator` that is no text, and
-- `conditions` that are no list of filters
abbrev pub fault : Sought
fault = record { other = true; condition = has_bad_member; operator = λ op ps. not (is_text op); unlisted = true }

abbrev pub is_bad_filter : Data → Bool
is_bad_filter d = is_found fault d

-- an unknown member or operator of a filter that isn't bad
abbrev pub unknown : Sought
unknown = record { other = false; condition = has_other_than condition_names; operator = λ op ps. not (is_operator op) || has_other_than operator_names ps; unlisted = false }

-- one for each operator and condition
abbrev pub counting : FilterMeaning ℕ
counting = record { other = 0; condition = λ ps. 1; operator = λ op ps counts. suc (sum (unwrap_or counts [])) }

-- how many operators and conditions a filter has
abbrev pub count_parts : Data → ℕ
count_parts d = said counting d

-- an unknown member or operator, or more operators and conditions than a filter may have
abbrev pub is_unsupported_filter : Data → Bool
is_unsupported_filter d = is_found unknown d || nat_lt MAX_FILTER_PARTS (count_parts d)

-- a condition asks when an event is
abbrev pub asks_time : List Pair → Bool
asks_time ps = is_some (text_given (codes "after") ps) || is_some (text_given (codes "before") ps)

abbrev pub time : Sought
time = record { other = false; condition = asks_time; operator = λ op ps. false; unlisted = false }

-- some condition of the filter does
abbrev pub has_time : Data → Bool
has_time d = is_found time d

-- AND holds where all conditions hold, OR where one does, and NOT where none does
abbrev pub operator_holds : List ℕ → List Bool → Bool
operator_holds op holds = if bytes_eq op (codes "AND") then all_true holds else if bytes_eq op (codes "OR") then some_true holds else not (some_true holds)

-- A filter holds by a test of conditions. What is no filter, such as null, always does.
abbrev pub holding : (List Pair → Bool) → FilterMeaning Bool
holding test = record {
  other = true;
  condition = test;
  operator = λ op ps conditions. operator_holds (unwrap_or (as_text op) []) (unwrap_or conditions []);
}

abbrev pub holds : (List Pair → Bool) → Data → Bool
holds test d = said (holding test) d
