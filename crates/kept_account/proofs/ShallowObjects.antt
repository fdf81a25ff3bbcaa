-- Objects without bad properties nest at most 61 deep.
use Rattle.std.proofs.Common.{◌≡◌, ◌≤◌, ◌++◌, ◌&&◌, ℕ, suc, List, [], ◌∷◌, Bool, true, false, cond, Option, Some, refl, sym, ap, ◌∙◌, arith, nat_le, length}
use Rattle.std.proofs.lemmas.Bool.{and_parts, eqb-true, false≢true, leb-true, or_right}
use Rattle.std.specs.Prelude.{is_some}
use Rattle.std.specs.List.{list_all}
use Rattle.std.specs.Str.{bytes_eq}
use Rattle.cal_model.specs.Calendar.{bad_properties, calendar_table}
use Rattle.property_table.proofs.NameLemmas.{has_append, has_keys}
use Rattle.property_table.proofs.TableLemmas.{all_failing, given_is, passes_by, value_given}
use Rattle.property_table.specs.Names.{has_name}
use Rattle.property_table.specs.Table.{PropertyRow, Table, Test, failing, given, keys_of, names_of, never, test_among, test_at}
use Rattle.property_table.specs.Values.{is_text, is_text_that, is_truth, is_unsigned_int}
use Rattle.kept_account.proofs.Shallow.{members_within, value_passes}
use Rattle.kept_account.proofs.ShallowRules.{rules_within}
use Rattle.spec_core.specs.Names.{is_name}
use Rattle.spec_events.specs.Events.{are_calendar_ids, event_table, is_calendar_member, start_in}
use Rattle.spec_events.specs.Participants.{are_participants}
use Rattle.spec_events.specs.Values.{is_empty_list, is_false, is_object_that, is_shallow, is_true}
use Rattle.spec_events.specs.declared.limits.TheConstants.{MAX_DEPTH, MAX_CALENDARS}
use Rattle.spec_history.specs.ObjectId.{object_number}
use Rattle.spec_history.specs.declared.entry.Kind.TheVariants.{Calendar}
use Rattle.spec_json.specs.Data.{Data, Members, Pair, depth, item, list, list_of, lookup, members_depth, no_items, null, object, pairs_of, text, truth, whole}
use Rattle.spec_json.specs.Fit.{IsFit}
use Rattle.spec_json.specs.Parts.{is_null}
use Rattle.spec_recurrence.specs.Overrides.{exceptions_in}
use Rattle.spec_recurrence.specs.Recurrence.{are_overrides, are_rules, bad_properties_of_event, recurring_event_table}
use Rattle.spec_site.specs.TimeZones.{ZoneText}

-- ---- values that pass the test of a property

abbrev IsShallow : Data → Type 0
IsShallow d = depth d ≤ 60

-- a test that no deep value passes
abbrev RefusesDeep : Test → Type 0
RefusesDeep test = (d : Data) → IsFit d → test (Some d) ≡ true → IsShallow d

by_text : (pass : List ℕ → Bool) (d : Data) → IsFit d → is_text_that pass d ≡ true → IsShallow d
by_text pass (text s) fit h = omega arith
by_text pass null fit h = absurd (false≢true h)
by_text pass (truth b) fit h = absurd (false≢true h)
by_text pass (whole n) fit h = absurd (false≢true h)
by_text pass (list ds) fit h = absurd (false≢true h)
by_text pass (object ms) fit h = absurd (false≢true h)

any_text : (d : Data) → IsFit d → is_text d ≡ true → IsShallow d
any_text (text s) fit h = omega arith
any_text null fit h = absurd (false≢true h)
any_text (truth b) fit h = absurd (false≢true h)
any_text (whole n) fit h = absurd (false≢true h)
any_text (list ds) fit h = absurd (false≢true h)
any_text (object ms) fit h = absurd (false≢true h)

by_false : (d : Data) → IsFit d → is_false d ≡ true → IsShallow d
by_false (truth b) fit h = omega arith
by_false null fit h = absurd (false≢true h)
by_false (whole n) fit h = absurd (false≢true h)
by_false (text s) fit h = absurd (false≢true h)
by_false (list ds) fit h = absurd (false≢true h)
by_false (object ms) fit h = absurd (false≢true h)

by_empty : (d : Data) → IsFit d → is_empty_list d ≡ true → IsShallow d
by_empty (list no_items) fit h = omega arith
by_empty (list (item d ds)) fit h = let none = eqb-true (suc (length (list_of ds))) 0 h in absurd (omega (arith, none))
by_empty null fit h = absurd (false≢true h)
by_empty (truth b) fit h = absurd (false≢true h)
by_empty (whole n) fit h = absurd (false≢true h)
by_empty (text s) fit h = absurd (false≢true h)
by_empty (object ms) fit h = absurd (false≢true h)

by_truth : (d : Data) → IsFit d → is_truth d ≡ true → IsShallow d
by_truth (truth b) fit h = omega arith
by_truth null fit h = absurd (false≢true h)
by_truth (whole n) fit h = absurd (false≢true h)
by_truth (text s) fit h = absurd (false≢true h)
by_truth (list ds) fit h = absurd (false≢true h)
by_truth (object ms) fit h = absurd (false≢true h)

by_number : (d : Data) → IsFit d → is_unsigned_int d ≡ true → IsShallow d
by_number (whole n) fit h = omega arith
by_number null fit h = absurd (false≢true h)
by_number (truth b) fit h = absurd (false≢true h)
by_number (text s) fit h = absurd (false≢true h)
by_number (list ds) fit h = absurd (false≢true h)
by_number (object ms) fit h = absurd (false≢true h)

true_flat : (d : Data) → is_true d ≡ true → depth d ≤ 1
true_flat (truth b) h = omega arith
true_flat null h = absurd (false≢true h)
true_flat (whole n) h = absurd (false≢true h)
true_flat (text s) h = absurd (false≢true h)
true_flat (list ds) h = absurd (false≢true h)
true_flat (object ms) h = absurd (false≢true h)

by_calendars : (d : Data) → IsFit d → is_object_that are_calendar_ids d ≡ true → IsShallow d
by_calendars (object ms) fit h =
    let all = (and_parts (nat_le 1 (length (pairs_of ms)) && nat_le (length (pairs_of ms)) MAX_CALENDARS) (list_all is_calendar_member (pairs_of ms)) h).1 in
    let inner : members_depth ms ≤ 1 = members_within 1 ms fit.0 fit.1 (λ k d found dfit.
    true_flat d (and_parts (is_some (object_number Calendar k)) (is_true d) (value_passes (λ j e. is_some (object_number Calendar j) && is_true e) k (pairs_of ms) d all found)).1) in
    omega (arith, inner)
by_calendars null fit h = omega arith
by_calendars (truth b) fit h = omega arith
by_calendars (whole n) fit h = omega arith
by_calendars (text s) fit h = omega arith
by_calendars (list ds) fit h = absurd (false≢true h)

by_depth : (d : Data) → is_shallow d ≡ true → IsShallow d
by_depth d h = leb-true (depth d) MAX_DEPTH h

by_people : (d : Data) → IsFit d → (is_object_that are_participants d && is_shallow d) ≡ true → IsShallow d
by_people d fit h = by_depth d (and_parts (is_object_that are_participants d) (is_shallow d) h).1

by_never : RefusesDeep never
by_never d fit h = absurd (false≢true h)

-- ---- the tables

abbrev AllRefuseDeep : List PropertyRow → Type 0
AllRefuseDeep [] = Unit {0}
AllRefuseDeep (row ∷ rows) = RefusesDeep row.1 × AllRefuseDeep rows

of_two : (b : Bool) (one other : Test) → RefusesDeep one → RefusesDeep other → RefusesDeep (cond b one other)
of_two true one other h k = h
of_two false one other h k = k

among_rows : (rows : List PropertyRow) (other : List ℕ → Test) (name : List ℕ) → AllRefuseDeep rows → RefusesDeep (other name) → RefusesDeep (test_among rows other name)
among_rows [] other name all behind = behind
among_rows (row ∷ rows) other name all behind = of_two (bytes_eq row.0 name) row.1 (test_among rows other name) all.0 (among_rows rows other name all.1 behind)

module _ (zones : List ZoneText) (event : Data) where
  event_rows : AllRefuseDeep (event_table zones).rows
  unfolding event_table
  event_rows = (by_text _, (by_text _, (by_calendars, (by_text _, (by_text _, (by_text _, (by_text _, (by_text _, (any_text, (any_text, (by_people, (by_false, (by_empty, (by_never, (by_never, tt)))))))))))))))

  other_refuses : (name : List ℕ) → RefusesDeep ((event_table zones).other name)
  unfolding event_table
  other_refuses name d fit h = by_depth d (and_parts (is_name name) (is_shallow d) h).1

  by_rules : (d : Data) → IsFit d → are_rules event d ≡ true → IsShallow d
  by_rules d fit h = let within = rules_within (start_in event) d fit h in omega (arith, within)

  by_overrides : (d : Data) → IsFit d → are_overrides zones event d ≡ true → IsShallow d
  by_overrides d fit h = by_depth d (and_parts (is_shallow d) (is_some (exceptions_in zones event)) h).0

  table_refuses : (name : List ℕ) → RefusesDeep (test_at (recurring_event_table zones event) name)
  unfolding recurring_event_table
  table_refuses name = among_rows (recurring_event_table zones event).rows (recurring_event_table zones event).other name (by_rules, (by_overrides, event_rows)) (other_refuses name)

  calendar_refuses : (name : List ℕ) → RefusesDeep (test_at (calendar_table zones) name)
  unfolding calendar_table
  calendar_refuses name = among_rows (calendar_table zones).rows (calendar_table zones).other name
      (by_text _, (by_text _, (any_text, (any_text, (by_number, (by_truth, (by_truth, (by_text _, (by_text _, tt))))))))) by_never

-- ---- objects without bad properties

given_there : (d : Data) (o : Option Data) → is_null d ≡ false → o ≡ Some d → value_given o ≡ Some d
given_there d o some is = ap value_given is ∙ rw some refl

passes_all : (t : Table) (ps : List Pair) (name : List ℕ) (d : Data) → failing t ps ≡ [] → lookup name ps ≡ Some d → test_at t name (Some d) ≡ true
passes_all t ps name d none found =
    let named : has_name (names_of t.rows ++ keys_of ps) name ≡ true =
    has_append (names_of t.rows) (keys_of ps) name ∙ or_right (has_name (names_of t.rows) name) (has_name (keys_of ps) name) (has_keys ps name ∙ ap is_some found) in
    ap (test_at t name) (sym found)
    ∙ passes_by (has_name (names_of t.rows ++ keys_of ps) name) (test_at t name (lookup name ps)) named (sym ((all_failing t ps).exact name) ∙ ap (λ ns. has_name ns name) none)

null_flat : (d : Data) → is_null d ≡ true → IsShallow d
null_flat null h = omega arith
null_flat (truth b) h = omega arith
null_flat (whole n) h = omega arith
null_flat (text s) h = omega arith
null_flat (list ds) h = absurd (false≢true h)
null_flat (object ms) h = absurd (false≢true h)

module _ (t : Table) (refuses : (name : List ℕ) → RefusesDeep (test_at t name)) (ms : Members) (fit : IsFit (object ms)) (none : failing t (given (pairs_of ms)) ≡ []) where
  value_by : (k : List ℕ) (d : Data) → lookup k (pairs_of ms) ≡ Some d → IsFit d → (b : Bool) → is_null d ≡ b → IsShallow d
  value_by k d found dfit true is = null_flat d is
  value_by k d found dfit false is =
      refuses k d dfit (passes_all t (given (pairs_of ms)) k d none (given_is k (pairs_of ms) fit.0 ∙ given_there d (lookup k (pairs_of ms)) is found))

  object_within : depth (object ms) ≤ 61
  object_within = let inner = members_within 60 ms fit.0 fit.1 (λ k d found dfit. value_by k d found dfit (is_null d) refl) in omega (arith, inner)

pub event_within : (zones : List ZoneText) (ms : Members) → IsFit (object ms) → bad_properties_of_event zones (object ms) ≡ [] → depth (object ms) ≤ 61
event_within zones ms fit none = object_within (recurring_event_table zones (object ms)) (table_refuses zones (object ms)) ms fit none

pub calendar_within : (zones : List ZoneText) (ms : Members) → IsFit (object ms) → bad_properties zones (object ms) ≡ [] → depth (object ms) ≤ 61
calendar_within zones ms fit none = object_within (calendar_table zones) (calendar_refuses zones (object ms)) ms fit none
