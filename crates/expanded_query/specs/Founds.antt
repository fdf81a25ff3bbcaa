-- What occurrences stand for as results, by their events.
use Rattle.std.specs.Prelude.{ℕ, List, Bool, Some, map, not}
use Rattle.std.specs.Option.{option_map_or}
use Rattle.std.specs.Ordering.{is_lt}
use Rattle.expanded_query.specs.declared.found_occurrence.FoundOccurrence.{FoundOccurrence}
use Rattle.expanded_query.specs.declared.ranked.Ranked.{Ranked}
use Rattle.expanded_query.specs.declared.source.Source.{Source}
use Rattle.jiff_tz.specs.PosixText.{tz_view}
use Rattle.spec_json.specs.TreeData.{data_of}
use Rattle.spec_queries.specs.Comparing.{by_all}
use Rattle.spec_queries.specs.Expanded.{ids_in_order, result_id, results_by}
use Rattle.spec_queries.specs.declared.comparator.Comparator.{Comparator}
use Rattle.spec_queries.specs.declared.item.Item.{Item}
use Rattle.spec_windows.specs.declared.window.Window.{Window}

-- what an event gives: its occurrences that overlap the window
abbrev pub given_by : Window → Source → List (List ℕ × Item)
given_by w s = results_by (Some s.series.now) (Some (tz_view s.rule)) w s.number (data_of s.event.now)

abbrev pub title_of : FoundOccurrence → List ℕ
title_of f = option_map_or (λ b. b.value) f.title f.source.now.title.now

abbrev pub found_item : FoundOccurrence → Item
found_item f = record {
  start = f.start;
  uid = f.source.now.uid.now;
  title = title_of f;
  created = f.source.now.created;
  updated = f.source.now.updated;
}

abbrev pub id_of : FoundOccurrence → List ℕ
id_of f = result_id f.source.now.number (data_of f.source.now.event.now) f.rid

abbrev pub found_result : FoundOccurrence → List ℕ × Item
found_result f = (id_of f, found_item f)

-- of one at its place
abbrev pub id_at : Ranked → List ℕ
id_at r = id_of r.found.now

abbrev pub ranked_result : Ranked → List ℕ × Item
ranked_result r = found_result r.found.now

-- the ids of all that was found, in order
abbrev pub ordered_ids : List Comparator → List FoundOccurrence → List (List ℕ)
ordered_ids order found = ids_in_order order (map found_result found)

-- an item doesn't stand behind another by its comparators
abbrev pub is_not_behind : List Comparator → Item → Item → Bool
is_not_behind cs last item = not (is_lt (by_all cs last item))
