-- What a query finds where each occurrence is a result of its own, and what its reply tells of it (draft JMAP for Calendars).
use Rattle.std.specs.Prelude.{ℕ, ℤ, pos, List, [], ◌∷◌, Bool, true, Option, Some, None, Result, Ok, Err, codes, filter, flat_map, length, map, slice_index_or, unwrap_or, if◌then◌else◌}
use Rattle.std.specs.List.{position}
use Rattle.std.specs.Str.{bytes_eq}
use Rattle.jiff_tz.specs.PosixText.{TzText}
use Rattle.spec_calls.specs.declared.call.Criteria.{Criteria}
use Rattle.spec_calls.specs.declared.call.MethodError.{MethodError}
use Rattle.spec_calls.specs.declared.call.Paging.{Paging}
use Rattle.spec_events.specs.Events.{has_recurrence}
use Rattle.spec_filters.specs.Matches.{event_matches, instants_asked}
use Rattle.spec_history.specs.Base.{Base}
use Rattle.spec_history.specs.History.{ids_at, live_object}
use Rattle.spec_history.specs.ObjectId.{id_text}
use Rattle.spec_history.specs.declared.entry.Change.{Change}
use Rattle.spec_history.specs.declared.entry.Kind.TheVariants.{Event}
use Rattle.spec_json.specs.Data.{Data, items_of, list, text}
use Rattle.spec_json.specs.Parts.{members_in, some_of}
use Rattle.spec_json.specs.TreeData.{data_of}
use Rattle.spec_json.specs.declared.tree.Tree.{Tree}
use Rattle.spec_queries.specs.Criteria.{filter_or_all, order_of}
use Rattle.spec_queries.specs.Found.{at_place, cut_asked, missing_anchor, no_window, cut_out, window_response}
use Rattle.spec_queries.specs.Items.{text_or_empty, utc_moment}
use Rattle.spec_queries.specs.Results.{places}
use Rattle.spec_queries.specs.declared.comparator.Comparator.{Comparator}
use Rattle.spec_queries.specs.declared.item.Item.{Item}
use Rattle.spec_queries.specs.declared.window.Anchor.{Anchor}
use Rattle.spec_queries.specs.declared.window.Anchor.TheVariants.{None as NoAnchor}
use Rattle.spec_queries.specs.declared.window.Cut.{Cut}
use Rattle.spec_recurrence.specs.OccurrenceIds.{occurrence_id_text}
use Rattle.spec_recurrence.specs.Overrides.{occurrence_in}
use Rattle.spec_recurrence.specs.Recurrence.{override_at}
use Rattle.spec_recurrence.specs.SeriesOf.{series_in}
use Rattle.spec_series.specs.declared.occurrence.Occurrence.{Occurrence}
use Rattle.spec_series.specs.declared.series.Series.{Series}
use Rattle.spec_series.specs.Numbers.{seconds_around}
use Rattle.spec_series.specs.Occurrences.{occurrence_with, passes_with}
use Rattle.spec_site.specs.TimeZones.{ZoneText}
use Rattle.spec_time.specs.LocalTimes.{local_text}
use Rattle.spec_windows.specs.Windows.{overlaps_window}
use Rattle.spec_windows.specs.ZoneRules.{rule_of, rule_of_event, utc_rule}
use Rattle.spec_windows.specs.Clocks.{instant_in}
use Rattle.spec_windows.specs.declared.window.Window.{Window}

-- The occurrences of a series that overlap a window.

-- the wall seconds that pass, rising, looked for around 1970-01-01T00:00:00
unfoldable pub passing_seconds : (ℤ → Bool) → List ℤ
passing_seconds p = filter p (seconds_around (pos 0))

-- the occurrences that overlap the window, by their recurrence ids
unfoldable pub occurrences_overlapping : Series → (ℤ → Option ℤ) → Window → List Occurrence
occurrences_overlapping s at w = flat_map (λ rid. some_of (occurrence_with s rid)) (passing_seconds (passes_with (overlaps_window at w) s))

-- An occurrence as a result.

-- the title of an object, empty where there is none
abbrev pub title_in : Result Data (List ℕ) → List ℕ
title_in (Ok d) = text_or_empty (codes "title") d
title_in (Err pointer) = []

-- that of the object of an occurrence, the LocalDateTime of whose recurrence id is the key
unfoldable pub title_at : List ℕ → Data → List ℕ
title_at key event = title_in (occurrence_in (members_in event) key (unwrap_or (override_at key event) []))

-- what comparators see of an occurrence by its clock: its own start and title, and the rest of its event
abbrev pub item_of_occurrence : (ℤ → Option ℤ) → Data → Occurrence → Item
item_of_occurrence at event o = record {
  start = unwrap_or (at o.start) (pos 0);
  uid = text_or_empty (codes "uid") event;
  title = title_at (local_text o.rid) event;
  created = utc_moment (codes "created") event;
  updated = utc_moment (codes "updated") event;
}

-- the id of an occurrence of event n: synthetic, or that of the event where it has neither rules nor overrides
abbrev pub result_id : ℕ → Data → ℤ → List ℕ
result_id n event rid = if has_recurrence event then occurrence_id_text n rid else id_text Event n

abbrev pub occurrence_result : (ℤ → Option ℤ) → ℕ → Data → Occurrence → List ℕ × Item
occurrence_result at n event o = (result_id n event o.rid, item_of_occurrence at event o)

-- the occurrences of event n that overlap the window; an event without series, or whose zone has no rule, has none
abbrev pub results_by : Option Series → Option TzText → Window → ℕ → Data → List (List ℕ × Item)
results_by None rule w n event = []
results_by (Some s) None w n event = []
results_by (Some s) (Some rule) w n event = map (occurrence_result (instant_in rule) n event) (occurrences_overlapping s (instant_in rule) w)

-- The result of a query.

-- for a query in this zone, which floating events have too, of this filter
module _ (zones : List ZoneText) (zone : List ℕ) (filter : Data) where
  -- the window between the filter's times
  abbrev pub query_window : Window
  query_window = instants_asked (unwrap_or (rule_of zones zone) utc_rule) (members_in filter)

  -- what event n gives: where the filter holds of it, its occurrences that overlap the window
  abbrev pub results_of_event : ℕ → Data → List (List ℕ × Item)
  results_of_event n event =
      if event_matches zones zone filter event then results_by (series_in zones event) (rule_of_event zones zone event) query_window n event else []

  -- the same, where it is live
  abbrev pub results_of_live : ℕ → Option Tree → List (List ℕ × Item)
  results_of_live n None = []
  results_of_live n (Some event) = results_of_event n (data_of event)

  -- what all live events give, in order of creation
  abbrev pub expanded_matches : List Change → List (List ℕ × Item)
  expanded_matches cs = flat_map (λ n. results_of_live n (live_object cs Event n)) (ids_at cs Event)

-- the ids that stand at these places
abbrev pub ids_in_places : List (List ℕ) → List ℕ → List (List ℕ)
ids_in_places ids ks = map (λ k. slice_index_or ids k []) ks

-- where an id stands in a result
abbrev pub anchor_among : List (List ℕ) → Option (List ℕ) → Anchor
anchor_among ids None = NoAnchor
anchor_among ids (Some anchor) = at_place (position (bytes_eq anchor) ids)

abbrev pub cut_among : Paging → List (List ℕ) → Option Cut
cut_among p ids = cut_asked p (length ids) (anchor_among ids p.anchor)

-- the arguments of the reply that tells this window of a result
abbrev pub expanded_window : Base → List Change → Paging → List (List ℕ) → Cut → Tree
expanded_window base cs p ids cut = window_response base cs p true (list (items_of (map text (cut_out cut ids)))) (length ids) cut

-- ids by the order of their items; equal ones stay as they stand
abbrev pub ids_in_order : List Comparator → List (List ℕ × Item) → List (List ℕ)
ids_in_order order found = ids_in_places (map (λ p. p.0) found) (places order (map (λ p. p.1) found))

module _ (zones : List ZoneText) (cs : List Change) (c : Criteria) where
  abbrev pub expanded_ids : List (List ℕ)
  expanded_ids = ids_in_order (order_of c) (expanded_matches zones c.time_zone (filter_or_all c.filter) cs)

  abbrev pub expanded_anchor_refusal : Paging → Option MethodError
  expanded_anchor_refusal p = missing_anchor (cut_among p expanded_ids)

  abbrev pub expanded_response : Base → Paging → Tree
  expanded_response base p = expanded_window base cs p expanded_ids (unwrap_or (cut_among p expanded_ids) no_window)
