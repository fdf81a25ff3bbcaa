-- Filters whose members are a list.
use Rattle.std.proofs.Common.{◌≡◌, ◌∙◌, ℕ, suc, ◌+◌, ◌<◌, ◌≤◌, List, [], ◌∷◌, Bool, true, false, ◌||◌, Option, Some, None, if◌then◌else◌, refl, sym, ap, arith, map}
use Rattle.std.specs.Prelude.{MatchOption, codes, option_and_then, option_map, unwrap_or}
use Rattle.std.specs.List.{sum}
use Rattle.std.specs.Option.{option_map_or}
use Rattle.std.specs.Str.{bytes_eq}
use Rattle.spec_filters.specs.Filters.{FilterMeaning, Sought, count_parts, counting, holding, holds, is_found, meaning_of, operator_holds, said, said_at, said_items, said_list, some_true}
use Rattle.spec_filters.specs.Members.{given_at}
use Rattle.spec_json.proofs.Booleans.{by_bool}
use Rattle.spec_json.proofs.DataLemmas.{items_forth}
use Rattle.spec_json.specs.Data.{Data, null, truth, whole, text, list, object, Items, no_items, item, Pair, list_of, pairs_back, lookup, items_of, members_of, depth, items_depth, members_depth}
use Rattle.spec_json.specs.Parts.{as_list, as_text}
use Rattle.query_filter.specs.Conditions.{conditions_in}

-- What stands at a key is no deeper than the object's members.

lookup_falls : (k : List ℕ) (ps : List Pair) (d : Data) → lookup k ps ≡ Some d → depth d ≤ members_depth (members_of ps)
lookup_falls k [] d h = cc
lookup_falls k (p ∷ ps) d h = by_bool (bytes_eq p.0 k)
    (λ t. let x = rw t at h in let e : p.1 ≡ d = cc in omega (arith, ap depth e))
    (λ f. let x = rw f at h in omega (arith, lookup_falls k ps d x))

list_falls : (d : Data) (ds : List Data) → as_list d ≡ Some ds → items_depth (items_of ds) < depth d
list_falls null ds h = cc
list_falls (truth b) ds h = cc
list_falls (whole n) ds h = cc
list_falls (text s) ds h = cc
list_falls (list is) ds h = let e : list_of is ≡ ds = cc in omega (arith, ap (λ x. items_depth (items_of x)) e, ap items_depth (items_forth is))
list_falls (object ms) ds h = cc

conditions_fall_by : (ps : List Pair) (o : Option Data) (ds : List Data) → lookup (codes "conditions") ps ≡ o → option_and_then as_list o ≡ Some ds → items_depth (items_of ds) < members_depth (members_of ps)
conditions_fall_by ps None ds e h = cc
conditions_fall_by ps (Some d) ds e h = omega (arith, lookup_falls (codes "conditions") ps d e, list_falls d ds h)

pub conditions_fall : (ps : List Pair) (ds : List Data) → conditions_in ps ≡ Some ds → items_depth (items_of ds) < members_depth (members_of ps)
conditions_fall ps ds h = conditions_fall_by ps (lookup (codes "conditions") ps) ds refl h

-- What is said of an object.

module _ {X : Type 0} (m : FilterMeaning X) where
  items_said : (is : Items) → said_items m is ≡ map (said m) (list_of is)
  items_said no_items = refl
  items_said (item d is) = ap (λ bs. said m d ∷ bs) (items_said is)

  list_said : (d : Data) → said_list m d ≡ option_map (map (said m)) (as_list d)
  list_said null = refl
  list_said (truth b) = refl
  list_said (whole n) = refl
  list_said (text s) = refl
  list_said (list is) = ap (λ bs. Some bs) (items_said is)
  list_said (object ms) = refl

  found_or : (b : Bool) (d : Data) (o : Option Data) → option_map (map (said m)) (option_and_then as_list (if b then Some d else o)) ≡ (if b then said_list m d else option_map (map (said m)) (option_and_then as_list o))
  found_or true d o = sym (list_said d)
  found_or false d o = refl

  at_said : (ps : List Pair) → said_at m (members_of ps) ≡ option_map (map (said m)) (conditions_in ps)
  at_said [] = refl
  at_said (p ∷ ps) = ap (λ o. if bytes_eq p.0 (codes "conditions") then said_list m p.1 else o) (at_said ps) ∙ sym (found_or (bytes_eq p.0 (codes "conditions")) p.1 (lookup (codes "conditions") ps))

  pub object_said : (ps : List Pair) → said m (object (members_of ps)) ≡ option_map_or (λ op. m.operator op ps (option_map (map (said m)) (conditions_in ps))) (given_at (codes "operator") ps) (m.condition ps)
  object_said ps = rw (pairs_back ps, at_said ps) refl

  pub condition_said : (ps : List Pair) → given_at (codes "operator") ps ≡ None → said m (object (members_of ps)) ≡ m.condition ps
  condition_said ps h = object_said ps ∙ ap (λ o. option_map_or (λ op. m.operator op ps (option_map (map (said m)) (conditions_in ps))) o (m.condition ps)) h

  pub operator_said : (ps : List Pair) (op : Data) (conditions : Option (List Data)) → given_at (codes "operator") ps ≡ Some op → conditions_in ps ≡ conditions
      → said m (object (members_of ps)) ≡ m.operator op ps (option_map (map (said m)) conditions)
  operator_said ps op conditions h k = object_said ps ∙ ap (λ o. option_map_or (λ x. m.operator x ps (option_map (map (said m)) (conditions_in ps))) o (m.condition ps)) h
      ∙ ap (λ o. m.operator op ps (option_map (map (said m)) o)) k

-- What is sought.
module _ (s : Sought) (ps : List Pair) where
  pub found_condition : given_at (codes "operator") ps ≡ None → s.condition ps ≡ is_found s (object (members_of ps))
  found_condition h = sym (condition_said (meaning_of s) ps h)

  pub found_operator : (op : Data) → given_at (codes "operator") ps ≡ Some op → s.operator op ps ≡ true → true ≡ is_found s (object (members_of ps))
  found_operator op h e = sym (operator_said (meaning_of s) ps op (conditions_in ps) h refl ∙ ap (λ b. b || option_map_or some_true (option_map (map (is_found s)) (conditions_in ps)) s.unlisted) e)

  pub found_unlisted : (op : Data) → given_at (codes "operator") ps ≡ Some op → s.operator op ps ≡ false → conditions_in ps ≡ None → s.unlisted ≡ is_found s (object (members_of ps))
  found_unlisted op h e k = sym (operator_said (meaning_of s) ps op None h k ∙ ap (λ b. b || s.unlisted) e)

  pub found_listed : (op : Data) (ds : List Data) → given_at (codes "operator") ps ≡ Some op → s.operator op ps ≡ false → conditions_in ps ≡ Some ds → some_true (map (is_found s) ds) ≡ is_found s (object (members_of ps))
  found_listed op ds h e k = sym (operator_said (meaning_of s) ps op (Some ds) h k ∙ ap (λ b. b || some_true (map (is_found s) ds)) e)

-- How many operators and conditions there are.
module _ (ps : List Pair) where
  pub counted_condition : given_at (codes "operator") ps ≡ None → count_parts (object (members_of ps)) ≡ 1
  counted_condition h = condition_said counting ps h

  pub counted_unlisted : (op : Data) → given_at (codes "operator") ps ≡ Some op → conditions_in ps ≡ None → count_parts (object (members_of ps)) ≡ 1
  counted_unlisted op h k = operator_said counting ps op None h k

  pub counted_listed : (op : Data) (ds : List Data) → given_at (codes "operator") ps ≡ Some op → conditions_in ps ≡ Some ds → count_parts (object (members_of ps)) ≡ suc (sum (map count_parts ds))
  counted_listed op ds h k = operator_said counting ps op (Some ds) h k

-- what is left behind an operator is what is left behind its conditions, of one less
pub left_behind_one : (o : Option ℕ) (left rest parts listed : ℕ) → rest + 1 ≡ left → parts ≡ suc listed → MatchOption o (rest < listed) (λ r. r + listed ≡ rest)
    → MatchOption o (left < parts) (λ r. r + parts ≡ left)
left_behind_one None left rest parts listed e f h = omega (arith, e, f, h)
left_behind_one (Some r) left rest parts listed e f h = omega (arith, e, f, h)

-- Where a filter holds.
module _ (test : List Pair → Bool) (ps : List Pair) where
  pub holds_condition : given_at (codes "operator") ps ≡ None → test ps ≡ holds test (object (members_of ps))
  holds_condition h = sym (condition_said (holding test) ps h)

  pub holds_unlisted : (op : Data) → given_at (codes "operator") ps ≡ Some op → conditions_in ps ≡ None → operator_holds (unwrap_or (as_text op) []) [] ≡ holds test (object (members_of ps))
  holds_unlisted op h k = sym (operator_said (holding test) ps op None h k)

  pub holds_listed : (op : Data) (ds : List Data) → given_at (codes "operator") ps ≡ Some op → conditions_in ps ≡ Some ds → operator_holds (unwrap_or (as_text op) []) (map (holds test) ds) ≡ holds test (object (members_of ps))
  holds_listed op ds h k = sym (operator_said (holding test) ps op (Some ds) h k)
