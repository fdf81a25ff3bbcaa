-- A changed event is valid where its part that the changes look at is, and what fails in the event lies in that part; then both are at the same time.
use Rattle.std.proofs.Common.{◌≡◌, ℕ, pos, List, [], ◌∷◌, ◌++◌, ◌&&◌, ◌||◌, ◌==◌, Bool, true, false, not, Option, Some, None, codes, length, option_and_then, unwrap_or, if◌then◌else◌, refl, sym, ap, ◌∙◌}
use Rattle.std.proofs.lemmas.Bool.{and_from, or_left, or_right}
use Rattle.std.specs.List.{list_all}
use Rattle.std.specs.Option.{option_map_or}
use Rattle.std.specs.Str.{bytes_eq}
use Rattle.spec_events.specs.Events.{event_table}
use Rattle.spec_events.specs.Values.{is_one_of}
use Rattle.spec_json.proofs.EditLemmas.{rises_with}
use Rattle.spec_json.proofs.KeyOrder.{both}
use Rattle.spec_json.specs.Data.{Data, Pair, field, lookup, pairs_back, text}
use Rattle.spec_json.specs.Edit.{with_pair}
use Rattle.spec_json.specs.ObjectKeys.{keys_rise}
use Rattle.spec_json.specs.Parts.{as_text, is_null, some_of}
use Rattle.spec_json.specs.Patch.{first_failing, placed_all, unless_failing}
use Rattle.spec_json.specs.Pointer.{parts}
use Rattle.spec_recurrence.specs.Overrides.{changed_at, span_in, span_of, valid_span}
use Rattle.spec_series.specs.declared.exception.Span.{Span}
use Rattle.spec_site.specs.TimeZones.{ZoneText}
use Rattle.spec_time.specs.Durations.{duration_in, length_of}
use Rattle.spec_time.specs.LocalTimes.{local_in}
use Rattle.property_table.proofs.NameLemmas.{has_append, has_head}
use Rattle.property_table.proofs.TableLemmas.{lookup_filter, rises_filter, value_kept}
use Rattle.property_table.specs.Names.{has_name}
use Rattle.property_table.specs.Table.{failing, given, required_names}
use Rattle.overrides.proofs.OverrideLemmas.{some_name}
use Rattle.overrides.proofs.PatchLemmas.{all_is, all_kept, all_out, all_rises, field_kept, lookup_kept, not_kept, placed_members, same_failing, with_kept, with_out}
use Rattle.overrides.proofs.TablePartLemmas.{tested_by_part}
use Rattle.overrides.specs.Parts.{IsPartOf, IsTestedByPart, all_begin_in, always_needed, are_all_needed, begins_in, begins_out, first_part, firsts_of, is_needed, kept, none_begins_in, object_of, part_with}

-- The first parts of a patch's keys are needed.
first_in : (f : List ℕ → Bool) (found : Option (List (List ℕ))) → ((n : List ℕ) → has_name (some_of (first_part found)) n ≡ true → f n ≡ true) → option_map_or (begins_in f) found true ≡ true
first_in f None h = refl
first_in f (Some []) h = refl
first_in f (Some (p ∷ ps)) h = h p (has_head p [])

in_front : (xs ys : List (List ℕ)) (n : List ℕ) → has_name xs n ≡ true → has_name (xs ++ ys) n ≡ true
in_front xs ys n h = has_append xs ys n ∙ or_left (has_name xs n) (has_name ys n) h

in_back : (xs ys : List (List ℕ)) (n : List ℕ) → has_name ys n ≡ true → has_name (xs ++ ys) n ≡ true
in_back xs ys n h = has_append xs ys n ∙ or_right (has_name xs n) (has_name ys n) h

all_in : (f : List ℕ → Bool) (patch : List Pair) → ((n : List ℕ) → has_name (firsts_of patch) n ≡ true → f n ≡ true) → all_begin_in f patch ≡ true
all_in f [] h = refl
all_in f (p ∷ patch) h =
    and_from _ _ (first_in f (parts p.0) (λ n e. h n (in_front (some_of (first_part (parts p.0))) (firsts_of patch) n e)))
    (all_in f patch (λ n e. h n (in_back (some_of (first_part (parts p.0))) (firsts_of patch) n e)))

all_needed : (patch : List Pair) → all_begin_in (is_needed (firsts_of patch)) patch ≡ true
all_needed patch = all_in (is_needed (firsts_of patch)) patch (λ n e. or_right (has_name always_needed n) (has_name (firsts_of patch) n) e)

-- the names that aren't needed
abbrev is_other : List (List ℕ) → List ℕ → Bool
is_other firsts name = not (is_needed firsts name)

first_out : (firsts : List (List ℕ)) (found : Option (List (List ℕ))) → option_map_or (begins_in (is_needed firsts)) found true ≡ true → option_map_or (begins_out (is_other firsts)) found true ≡ true
first_out firsts None h = refl
first_out firsts (Some []) h = refl
first_out firsts (Some (p ∷ ps)) h = let g : is_needed firsts p ≡ true = h in ap (λ b. not (not b)) g

none_other : (firsts : List (List ℕ)) (patch : List Pair) → all_begin_in (is_needed firsts) patch ≡ true → none_begins_in (is_other firsts) patch ≡ true
none_other firsts [] h = refl
none_other firsts (p ∷ patch) h =
    let hs = both (option_map_or (begins_in (is_needed firsts)) (parts p.0) true) (all_begin_in (is_needed firsts) patch) h in
    and_from _ _ (first_out firsts (parts p.0) hs.0) (none_other firsts patch hs.1)

-- The values at a name, of the members that aren't null.
abbrev is_there : Pair → Bool
is_there p = not (is_null p.1)

given_at : (k : List ℕ) (ps qs : List Pair) → keys_rise ps ≡ true → keys_rise qs ≡ true → lookup k ps ≡ lookup k qs → lookup k (given ps) ≡ lookup k (given qs)
given_at k ps qs r s e = lookup_filter is_there k ps r ∙ ap (value_kept is_there k) e ∙ sym (lookup_filter is_there k qs s)

none_given : (k : List ℕ) (ps : List Pair) → keys_rise ps ≡ true → lookup k ps ≡ None → lookup k (given ps) ≡ None
none_given k ps r e = lookup_filter is_there k ps r ∙ ap (value_kept is_there k) e

same_outside : (firsts : List (List ℕ)) (k : List ℕ) (ps qs : List Pair) → keys_rise ps ≡ true → keys_rise qs ≡ true → is_needed firsts k ≡ false → kept (is_other firsts) ps ≡ kept (is_other firsts) qs → lookup k ps ≡ lookup k qs
same_outside firsts k ps qs r s e h =
    let g : is_other firsts k ≡ true = ap not e in
    sym (lookup_kept (is_other firsts) k g ps r) ∙ ap (lookup k) h ∙ lookup_kept (is_other firsts) k g qs s

three : (a b c rest more : Bool) → ((a || (b || (c || rest))) || more) ≡ false → (a || (b || (c || false))) ≡ false
three true b c rest more h = cc
three false true c rest more h = cc
three false false true rest more h = cc
three false false false rest more h = refl

required_in : (zones : List ZoneText) (firsts : List (List ℕ)) (n : List ℕ) → is_needed firsts n ≡ false → has_name (required_names (event_table zones)) n ≡ false
unfolding event_table
required_in zones firsts n h =
    three (bytes_eq (codes "uid") n) (bytes_eq (codes "calendarIds") n) (bytes_eq (codes "start") n)
    (has_name (codes "duration" ∷ codes "status" ∷ codes "freeBusyStatus" ∷ []) n) (has_name firsts n) h

is_part : (zones : List ZoneText) (firsts : List (List ℕ)) (whole event : List Pair) → keys_rise whole ≡ true → keys_rise event ≡ true → kept (is_other firsts) whole ≡ kept (is_other firsts) event
    → IsPartOf (event_table zones) (is_needed firsts) (given whole) (given (kept (is_needed firsts) whole)) (given event)
is_part zones firsts whole event r s h =
    let part_rises : keys_rise (kept (is_needed firsts) whole) ≡ true = rises_filter (λ p. is_needed firsts p.0) whole r in
    record {
      inside = λ n e. given_at n whole (kept (is_needed firsts) whole) r part_rises (sym (lookup_kept (is_needed firsts) n e whole r));
      outside = λ n e. given_at n whole event r s (same_outside firsts n whole event r s e h);
      nothing_else = λ n e. none_given n (kept (is_needed firsts) whole) part_rises (not_kept (is_needed firsts) n whole r e);
      has_required = λ n e. required_in zones firsts n e;
    }

decide : (xs ys : List (List ℕ)) (a : Bool) → (xs ≡ [] → (ys ≡ []) × (a ≡ true)) → (ys ≡ [] → a ≡ true → xs ≡ []) → (length xs == 0) ≡ (a && (length ys == 0))
decide [] ys a to from = let b = to refl in rw (b.0, b.1) refl
decide (x ∷ xs) [] true to from = absurd (let e = from refl refl in cc)
decide (x ∷ xs) (y ∷ ys) true to from = some_name x xs ∙ sym (some_name y ys)
decide (x ∷ xs) ys false to from = some_name x xs

-- A span, by the values that tell it.
abbrev span_from : Option Data → Option Data → Option Data → Option Data → Span
span_from start duration status free = record {
  start = unwrap_or (option_and_then local_in (option_and_then as_text start)) (pos 0);
  length = unwrap_or (option_and_then duration_in (option_and_then as_text duration)) (length_of 0 0);
  occupying = not (option_map_or (is_one_of (codes "cancelled" ∷ [])) status false) && not (option_map_or (is_one_of (codes "free" ∷ [])) free false);
}

span_is : (d : Data) → span_in d ≡ span_from (field (codes "start") d) (field (codes "duration") d) (field (codes "status") d) (field (codes "freeBusyStatus") d)
span_is d = refl

span_by : (a b c d e f g h : Option Data) → a ≡ e → b ≡ f → c ≡ g → d ≡ h → span_from a b c d ≡ span_from e f g h
span_by a b c d e f g h i j k l = rw (i, j, k, l) refl

same_span : (firsts : List (List ℕ)) (ps : List Pair) → keys_rise ps ≡ true → span_in (object_of ps) ≡ span_in (object_of (kept (is_needed firsts) ps))
same_span firsts ps r =
    span_is (object_of ps)
    ∙ span_by _ _ _ _ _ _ _ _
    (field_kept (is_needed firsts) (codes "start") refl ps r) (field_kept (is_needed firsts) (codes "duration") refl ps r)
    (field_kept (is_needed firsts) (codes "status") refl ps r) (field_kept (is_needed firsts) (codes "freeBusyStatus") refl ps r)
    ∙ sym (span_is (object_of (kept (is_needed firsts) ps)))

if_both : (a b : Bool) (s : Span) → (if (a && b) then Some s else None) ≡ (if a then (if b then Some s else None) else None)
if_both true b s = refl
if_both false b s = refl

-- all that fails in these members is needed
abbrev fails_in_part : List ZoneText → List (List ℕ) → List Pair → Bool
fails_in_part zones firsts ps = list_all (is_needed firsts) (failing (event_table zones) (given ps))

span_if : List ZoneText → Span → List Pair → Option Span
span_if zones s ps = if length (failing (event_table zones) (given ps)) == 0 then Some s else None

valid_is : (zones : List ZoneText) (ps : List Pair) → valid_span zones (object_of ps) ≡ span_if zones (span_in (object_of ps)) ps
unfolding span_if
valid_is zones ps = ap (span_if zones (span_in (object_of ps))) (pairs_back ps)

valid_by_part : (zones : List ZoneText) (firsts : List (List ℕ)) (whole event : List Pair) → keys_rise whole ≡ true → keys_rise event ≡ true → kept (is_other firsts) whole ≡ kept (is_other firsts) event
    → valid_span zones (object_of whole) ≡ (if fails_in_part zones firsts event then valid_span zones (object_of (kept (is_needed firsts) whole)) else None)
unfolding span_if
valid_by_part zones firsts whole event r s h =
    let part : List Pair = kept (is_needed firsts) whole in
    let tested : IsTestedByPart (event_table zones) (is_needed firsts) (given whole) (given part) (given event)
    = tested_by_part (event_table zones) (is_needed firsts) (given whole) (given part) (given event) (is_part zones firsts whole event r s h) in
    valid_is zones whole
    ∙ ap (λ b. if b then Some (span_in (object_of whole)) else None) (decide (failing (event_table zones) (given whole)) (failing (event_table zones) (given part)) (fails_in_part zones firsts event) tested.to tested.from)
    ∙ ap (λ s. if (fails_in_part zones firsts event && (length (failing (event_table zones) (given part)) == 0)) then Some s else None) (same_span firsts whole r)
    ∙ if_both (fails_in_part zones firsts event) (length (failing (event_table zones) (given part)) == 0) (span_in (object_of part))
    ∙ ap (λ s. if fails_in_part zones firsts event then s else None) (sym (valid_is zones part))

unless : (zones : List ZoneText) (failing_key : Option (List ℕ)) (d e : Data) (a : Bool) → valid_span zones d ≡ (if a then valid_span zones e else None)
    → span_of zones (unless_failing failing_key d) ≡ (if a then span_of zones (unless_failing failing_key e) else None)
unless zones None d e a h = h
unless zones (Some k) d e true h = refl
unless zones (Some k) d e false h = refl

span_by_part : (zones : List ZoneText) (key : List ℕ) (changes event : List Pair) (firsts : List (List ℕ)) → keys_rise event ≡ true → all_begin_in (is_needed firsts) changes ≡ true
    → span_of zones (changed_at key changes event) ≡ (if fails_in_part zones firsts event then span_of zones (changed_at key changes (kept (is_needed firsts) event)) else None)
span_by_part zones key changes event firsts r t =
    let moved : List Pair = with_pair (codes "start") (text key) event in
    let rise : keys_rise moved ≡ true = rises_with (codes "start") (text key) event r in
    let whole : List Pair = placed_members moved changes in
    let same : kept (is_other firsts) whole ≡ kept (is_other firsts) event
    = all_out (is_other firsts) changes moved (none_other firsts changes t) ∙ with_out (is_other firsts) (codes "start") (text key) refl event in
    ap (λ d. span_of zones (unless_failing (first_failing (object_of moved) [] changes) d)) (all_is moved changes)
    ∙ unless zones (first_failing (object_of moved) [] changes) (object_of whole) (object_of (kept (is_needed firsts) whole)) (fails_in_part zones firsts event)
    (valid_by_part zones firsts whole event (all_rises changes moved rise) r same)
    ∙ ap (λ k. if fails_in_part zones firsts event then span_of zones (unless_failing k (object_of (kept (is_needed firsts) whole))) else None) (same_failing (is_needed firsts) [] changes moved rise t)
    ∙ ap (λ ms. if fails_in_part zones firsts event then span_of zones (unless_failing (first_failing (object_of (kept (is_needed firsts) moved)) [] changes) (object_of ms)) else None) (all_kept (is_needed firsts) changes moved rise t)
    ∙ ap (λ d. if fails_in_part zones firsts event then span_of zones (unless_failing (first_failing (object_of (kept (is_needed firsts) moved)) [] changes) d) else None) (sym (all_is (kept (is_needed firsts) moved) changes))
    ∙ ap (λ ms. if fails_in_part zones firsts event then span_of zones (unless_failing (first_failing (object_of ms) [] changes) (placed_all (object_of ms) changes)) else None) (with_kept (is_needed firsts) (codes "start") (text key) refl event r)

-- an event that fails beyond the part has no valid occurrence
pub fails_beyond : (zones : List ZoneText) (key : List ℕ) (changes event : List Pair) → keys_rise event ≡ true → are_all_needed (firsts_of changes) (failing (event_table zones) (given event)) ≡ false → span_of zones (changed_at key changes event) ≡ None
unfolding are_all_needed
fails_beyond zones key changes event r e =
    span_by_part zones key changes event (firsts_of changes) r (all_needed changes)
    ∙ ap (λ b. if b then span_of zones (changed_at key changes (kept (is_needed (firsts_of changes)) event)) else None) e

-- and else the part tells all
pub part_tells : (zones : List ZoneText) (key : List ℕ) (changes event : List Pair) → keys_rise event ≡ true → are_all_needed (firsts_of changes) (failing (event_table zones) (given event)) ≡ true
    → span_of zones (changed_at key changes event) ≡ span_of zones (changed_at key changes (part_with (firsts_of changes) event))
unfolding are_all_needed part_with
part_tells zones key changes event r e =
    span_by_part zones key changes event (firsts_of changes) r (all_needed changes)
    ∙ ap (λ b. if b then span_of zones (changed_at key changes (kept (is_needed (firsts_of changes)) event)) else None) e
