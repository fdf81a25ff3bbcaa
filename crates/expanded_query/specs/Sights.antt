-- What a query sees of events whose occurrences are results.
use Rattle.std.specs.Prelude.{ℕ, List, flat_map}
use Rattle.expanded_query.specs.declared.sight.OccurrenceSight.{OccurrenceSight}
use Rattle.spec_history.specs.History.{live_object}
use Rattle.spec_history.specs.declared.entry.Change.{Change}
use Rattle.spec_history.specs.declared.entry.Kind.TheVariants.{Event}
use Rattle.spec_filters.specs.Matches.{instants_asked}
use Rattle.spec_json.specs.Data.{Data}
use Rattle.spec_json.specs.Parts.{members_in}
use Rattle.spec_queries.specs.Expanded.{expanded_matches, results_of_event, results_of_live}
use Rattle.spec_queries.specs.declared.item.Item.{Item}
use Rattle.spec_site.specs.TimeZones.{ZoneText}
use Rattle.spec_windows.specs.declared.window.Window.{Window}

-- the zones, the query's zone, and the filter
abbrev pub looks_for : OccurrenceSight → List ZoneText × (List ℕ × Data)
looks_for s = (s.zones.now, (s.floating.now, s.filter.filter))

-- the window between the filter's times
abbrev pub filter_window : OccurrenceSight → Window
filter_window s = instants_asked s.filter.clock (members_in s.filter.filter)

-- what event n gives, what these events give as far as they are live, and what all live events do
abbrev pub gives : OccurrenceSight → ℕ → Data → List (List ℕ × Item)
gives s n event = results_of_event s.zones.now s.floating.now s.filter.filter n event

abbrev pub given_among : OccurrenceSight → List Change → List ℕ → List (List ℕ × Item)
given_among s cs numbers = flat_map (λ n. results_of_live s.zones.now s.floating.now s.filter.filter n (live_object cs Event n)) numbers

abbrev pub all_given : OccurrenceSight → List Change → List (List ℕ × Item)
all_given s cs = expanded_matches s.zones.now s.floating.now s.filter.filter cs
