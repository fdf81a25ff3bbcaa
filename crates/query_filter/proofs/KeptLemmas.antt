-- Filters whose times are kept.
use Rattle.std.proofs.Common.{◌≡◌, ◌∙◌, ℕ, List, [], ◌∷◌, ◌&&◌, ◌||◌, Bool, true, false, not, Option, Some, None, is_some, if◌then◌else◌, refl, sym, ap}
use Rattle.std.specs.Prelude.{codes, unwrap_or}
use Rattle.std.specs.Option.{option_map_or}
use Rattle.std.specs.Str.{bytes_eq}
use Rattle.std.proofs.lemmas.Bool.{not-true, or_parts}
use Rattle.std.proofs.lemmas.Slice.Eq.{bytes_eq-Decides}
use Rattle.jiff_tz.specs.PosixText.{TzText}
use Rattle.spec_filters.specs.Filters.{asks_time, holding, holds, operator_holds, said_at}
use Rattle.spec_filters.specs.Matches.{asks, has_uid, instants_asked, is_in_calendar, meets_condition, overlaps_by, times_meet}
use Rattle.spec_filters.specs.Members.{given_at, has_other_than, text_given}
use Rattle.spec_json.proofs.Booleans.{by_bool}
use Rattle.spec_json.specs.Data.{Data, null, truth, whole, text, list, object, Pair, pairs_of}
use Rattle.spec_json.specs.Parts.{as_text, is_null, members_in}
use Rattle.spec_series.specs.declared.series.Series.{Series}
use Rattle.property_table.specs.Names.{has_name}
use Rattle.query_filter.specs.KeptTimes.{condition_times, has_ids, object_times, others_meet, texts_meet, time_names, times_of}
use Rattle.query_filter.specs.declared.times.Times.{Times}

-- What is kept is that of a condition.

kept_by : (operator : Option Data) (asks : Bool) (c t : Times) → (if is_some operator || not asks then None else Some c) ≡ Some t → (operator ≡ None) × ((asks ≡ true) × (c ≡ t))
kept_by (Some d) asks c t h = cc
kept_by None true c t h = (refl, (refl, cc))
kept_by None false c t h = cc

object_kept : (clock : TzText) (ps : List Pair) (t : Times) → object_times clock ps ≡ Some t
    → (given_at (codes "operator") ps ≡ None) × ((asks_time ps ≡ true) × (condition_times clock ps ≡ t))
object_kept clock ps t h = kept_by (given_at (codes "operator") ps) (asks_time ps) (condition_times clock ps) t h

pub kept_window : (clock : TzText) (filter : Data) (t : Times) → times_of clock filter ≡ Some t → t.window ≡ instants_asked clock (members_in filter)
kept_window clock filter t h = let k = object_kept clock (members_in filter) t h in sym (ap (λ x. x.window) k.1.1)

-- A condition holds where its times do and all else does.

apart : (a b t c : Bool) → (a && (b && (t && c))) ≡ (t && ((a && b) && c))
apart true true t c = refl
apart true false true c = refl
apart true false false c = refl
apart false b true c = refl
apart false b false c = refl

neither_of : (a b c : Bool) → (a && b) ≡ false → (a && (b && c)) ≡ false
neither_of true b c h = rw h refl
neither_of false b c h = refl

module _ (clock : TzText) (series : Option Series) (rule : Option TzText) (event : Data) where
  pub unmet_ids : (ps : List Pair) → has_ids event ps ≡ false → meets_condition clock series rule event ps ≡ false
  unfolding meets_condition
  unmet_ids ps h = neither_of (asks (codes "inCalendar") ps (is_in_calendar event)) (asks (codes "uid") ps (has_uid event)) (times_meet clock series rule ps && texts_meet event ps) h

  meets_apart : (ps : List Pair) → meets_condition clock series rule event ps ≡ (times_meet clock series rule ps && others_meet event ps)
  unfolding meets_condition
  meets_apart ps = apart (asks (codes "inCalendar") ps (is_in_calendar event)) (asks (codes "uid") ps (has_uid event)) (times_meet clock series rule ps) (texts_meet event ps)

  pub unmet_times : (ps : List Pair) → times_meet clock series rule ps ≡ false → meets_condition clock series rule event ps ≡ false
  unmet_times ps h = meets_apart ps ∙ rw h refl

  object_holds : (ps : List Pair) (t : Times) → (asks_time ps ≡ true) × (condition_times clock ps ≡ t) → meets_condition clock series rule event ps ≡ (overlaps_by series rule t.window && others_meet event ps)
  object_holds ps t k = meets_apart ps ∙ rw k.0 (ap (λ x. overlaps_by series rule x.window && others_meet event ps) k.1)

  pub kept_holds : (filter : Data) (t : Times) → times_of clock filter ≡ Some t → holds (meets_condition clock series rule event) filter ≡ (overlaps_by series rule t.window && others_meet event (members_in filter))
  kept_holds null t h = cc
  kept_holds (truth b) t h = cc
  kept_holds (whole n) t h = cc
  kept_holds (text s) t h = cc
  kept_holds (list ds) t h = cc
  kept_holds (object ms) t h =
      let k = object_kept clock (pairs_of ms) t h in
      ap (λ o. option_map_or (λ op. operator_holds (unwrap_or (as_text op) []) (unwrap_or (said_at (holding (meets_condition clock series rule event)) ms) [])) o (meets_condition clock series rule event (pairs_of ms))) k.0
      ∙ object_holds (pairs_of ms) t k.1

-- A condition with no other members holds where its times do.

null_text : (d : Data) (named : Bool) → (not (is_null d) && not named) ≡ false → named ≡ false → as_text d ≡ None
null_text null named h n = refl
null_text (truth b) named h n = refl
null_text (whole x) named h n = refl
null_text (text s) true h n = cc
null_text (text s) false h n = cc
null_text (list ds) named h n = refl
null_text (object ms) named h n = refl

left_out : (names : List (List ℕ)) (key : List ℕ) (ps : List Pair) → has_other_than names ps ≡ false → has_name names key ≡ false → text_given key ps ≡ None
left_out names key [] h n = refl
left_out names key (p ∷ ps) h n =
    let parts = or_parts (not (is_null p.1) && not (has_name names p.0)) (has_other_than names ps) h in
    by_bool (bytes_eq p.0 key)
    (λ e. rw e (null_text p.1 (has_name names p.0) parts.0 (ap (has_name names) ((bytes_eq-Decides p.0 key).0 e) ∙ n)))
    (λ e. rw e (left_out names key ps parts.1 n))

none_more : (event : Data) (ps : List Pair) → has_other_than time_names ps ≡ false → others_meet event ps ≡ true
none_more event ps h =
    rw (
      left_out time_names (codes "inCalendar") ps h refl,
      left_out time_names (codes "uid") ps h refl,
      left_out time_names (codes "title") ps h refl,
      left_out time_names (codes "text") ps h refl,
      left_out time_names (codes "participant") ps h refl,
      left_out time_names (codes "participationStatus") ps h refl,
    ) refl

pub alone_meet : (clock : TzText) (event filter : Data) (t : Times) → times_of clock filter ≡ Some t → t.are_all ≡ true → others_meet event (members_in filter) ≡ true
alone_meet clock event filter t h all =
    let k = object_kept clock (members_in filter) t h in
    none_more event (members_in filter) (not-true (has_other_than time_names (members_in filter)) (ap (λ x. x.are_all) k.1.1 ∙ all))

-- What comes of a filter by whether its times hold.
module _ (clock : TzText) (series : Option Series) (rule : Option TzText) (event filter : Data) (t : Times) (h : times_of clock filter ≡ Some t) where
  pub times_missed : overlaps_by series rule t.window ≡ false → holds (meets_condition clock series rule event) filter ≡ false
  times_missed missed = kept_holds clock series rule event filter t h ∙ rw missed refl

  pub times_alone : overlaps_by series rule t.window ≡ true → t.are_all ≡ true → holds (meets_condition clock series rule event) filter ≡ true
  times_alone met all = kept_holds clock series rule event filter t h ∙ rw (met, alone_meet clock event filter t h all) refl

  pub times_met : overlaps_by series rule t.window ≡ true → holds (meets_condition clock series rule event) filter ≡ others_meet event (members_in filter)
  times_met met = kept_holds clock series rule event filter t h ∙ rw met refl
