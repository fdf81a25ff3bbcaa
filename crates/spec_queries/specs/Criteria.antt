-- Which events a query asks for, and in which order (RFC 8620 section 5.5).
use Rattle.std.specs.Prelude.{ℕ, pos, ◌-ℤ◌, int_le, List, [], ◌&&◌, ◌||◌, Bool, true, false, not, Option, Some, None, option_map, unwrap_or, if◌then◌else◌}
use Rattle.std.specs.Option.{option_map_or}
use Rattle.spec_calls.specs.declared.call.Criteria.{Criteria}
use Rattle.spec_calls.specs.declared.call.MethodError.{MethodError}
use Rattle.spec_calls.specs.declared.call.MethodError.TheVariants.{InvalidArguments, UnsupportedFilter, UnsupportedSort}
use Rattle.spec_filters.specs.Filters.{is_bad_filter, is_unsupported_filter}
use Rattle.spec_filters.specs.Matches.{event_matches, window_asked}
use Rattle.spec_json.specs.Data.{Data, no_members, null, object}
use Rattle.spec_json.specs.TreeData.{data_of}
use Rattle.spec_json.specs.declared.tree.Tree.{Tree}
use Rattle.spec_queries.specs.Sorts.{Sort, bad_sort, unsupported_sort, by_comparators, sort_in}
use Rattle.spec_queries.specs.declared.comparator.Comparator.{Comparator}
use Rattle.spec_queries.specs.declared.item.Item.{Item}
use Rattle.spec_queries.specs.Items.{seen_where}
use Rattle.spec_queries.specs.declared.limits.TheConstants.{MAX_EXPANDED_SECONDS}
use Rattle.spec_site.specs.TimeZones.{ZoneText, has_zone}

-- The condition without members, which holds of every event, where no filter is given.
abbrev pub filter_or_all : Option Tree → Data
filter_or_all filter = unwrap_or (option_map data_of filter) (object no_members)

-- null, which is no comparator, where no sort is given
abbrev pub sort_or_none : Option Tree → Data
sort_or_none sort = unwrap_or (option_map data_of sort) null

abbrev pub is_bad_sort : Sort → Bool
is_bad_sort bad_sort = true
is_bad_sort unsupported_sort = false
is_bad_sort (by_comparators order) = false

abbrev pub is_unsupported_sort : Sort → Bool
is_unsupported_sort bad_sort = false
is_unsupported_sort unsupported_sort = true
is_unsupported_sort (by_comparators order) = false

abbrev pub comparators_of : Sort → List Comparator
comparators_of bad_sort = []
comparators_of unsupported_sort = []
comparators_of (by_comparators order) = order

module _ (c : Criteria) where
  -- filter and sort are such, whether or not all of them is known
  abbrev pub are_terms : Bool
  are_terms = not (is_bad_filter (filter_or_all c.filter)) && not (is_bad_sort (sort_in (sort_or_none c.sort)))

  abbrev pub order_of : List Comparator
  order_of = comparators_of (sort_in (sort_or_none c.sort))

-- the filter is one condition with both times, `before` at most 366 days of wall time past `after`
abbrev pub asks_window : Data → Bool
asks_window filter = option_map_or (λ w. int_le (w.1 -ℤ w.0) (pos MAX_EXPANDED_SECONDS)) (window_asked filter) false

-- Each occurrence is a result of its own where `expand` is true.

-- not all of the filter is known, or it lacks the window that occurrences are to overlap
abbrev pub lacks_support : Bool → Data → Bool
lacks_support expand filter = is_unsupported_filter filter || (expand && not (asks_window filter))

module _ (c : Criteria) (expand : Bool) where
  -- what of the filter isn't supported, or of the sort
  abbrev pub unsupported : Option MethodError
  unsupported =
      if lacks_support expand (filter_or_all c.filter) then Some UnsupportedFilter
      else if is_unsupported_sort (sort_in (sort_or_none c.sort)) then Some UnsupportedSort else None

  -- why filter and sort are refused
  abbrev pub terms_refusal : Option MethodError
  terms_refusal = if are_terms c then unsupported else Some InvalidArguments

module _ (zones : List ZoneText) (c : Criteria) where
  -- why criteria are refused: their zone isn't known, or filter or sort is refused
  abbrev pub criteria_refusal : Bool → Option MethodError
  criteria_refusal expand = if has_zone zones c.time_zone then terms_refusal c expand else Some InvalidArguments

  -- what the query sees of an event's object; times of the filter and floating events are of its zone
  abbrev pub sight_of : Tree → Option Item
  sight_of = seen_where (event_matches zones c.time_zone (filter_or_all c.filter)) zones c.time_zone
