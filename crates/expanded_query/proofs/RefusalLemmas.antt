-- What a query finds and is refused for, where its criteria aren't refused.
use Rattle.std.proofs.Common.{◌≡◌, ◌∙◌, ℕ, List, true, None, ap, flat_map, map, refl, subst, sym}
use Rattle.std.specs.Prelude.{IfErr, IfOk, OnOk, Result, unwrap_or}
use Rattle.expanded_query.specs.Founds.{found_result, given_by, ordered_ids}
use Rattle.expanded_query.specs.Sights.{all_given, filter_window, looks_for}
use Rattle.expanded_query.specs.declared.found_occurrence.FoundOccurrence.{FoundOccurrence}
use Rattle.expanded_query.specs.declared.sight.OccurrenceSight.{OccurrenceSight}
use Rattle.expanded_query.specs.declared.source.Source.{Source}
use Rattle.spec_calls.specs.declared.call.Criteria.{Criteria}
use Rattle.spec_calls.specs.declared.call.Paging.{Paging}
use Rattle.spec_history.specs.declared.entry.Change.{Change}
use Rattle.spec_json.specs.declared.tree.Tree.{Tree}
use Rattle.spec_queries.specs.Criteria.{criteria_refusal, filter_or_all, order_of}
use Rattle.spec_queries.specs.Expanded.{cut_among, expanded_anchor_refusal, expanded_ids, expanded_matches, expanded_window, ids_in_order}
use Rattle.spec_queries.specs.Found.{missing_anchor, no_window}
use Rattle.spec_queries.specs.Queries.{is_paging, occurrences_asked, query_refusal, query_response}
use Rattle.spec_queries.specs.declared.comparator.Comparator.{Comparator}
use Rattle.spec_history.specs.Base.{Base}
use Rattle.spec_site.specs.TimeZones.{ZoneText}
use Rattle.spec_windows.specs.declared.window.Window.{Window}
use Rattle.query_methods.specs.Reports.{Reports}
use Rattle.query_methods.specs.declared.error.QueryError.{QueryError}

-- for its anchor alone
pub by_window : (base : Base) (cs : List Change) (c : Criteria) (p : Paging) → is_paging p ≡ true → criteria_refusal base.zones c true ≡ None
    → query_refusal base cs (occurrences_asked c p) ≡ expanded_anchor_refusal base.zones cs c p
by_window base cs c p h k = rw (h, k) refl

-- by a sight and an order that are those of its criteria
pub ids_same : (zones : List ZoneText) (cs : List Change) (c : Criteria) (s : OccurrenceSight) (order : List Comparator) (ids : List (List ℕ))
    → looks_for s ≡ (zones, (c.time_zone, filter_or_all c.filter)) → order ≡ order_of c → ids ≡ ids_in_order order (all_given s cs) → ids ≡ expanded_ids zones cs c
ids_same zones cs c s order ids sight sorted is = is ∙ (λ i. ids_in_order (sorted i) (expanded_matches (sight i).0 (sight i).1.0 (sight i).1.1 cs))

-- so are those of what was found of the events that the sight sees, and put in that order
pub found_same : (zones : List ZoneText) (cs : List Change) (c : Criteria) (s : OccurrenceSight) (order : List Comparator) (seen sources : List Source) (w : Window) (all found : List FoundOccurrence)
    → looks_for s ≡ (zones, (c.time_zone, filter_or_all c.filter)) → order ≡ order_of c → flat_map (given_by (filter_window s)) seen ≡ all_given s cs → sources ≡ seen → w ≡ filter_window s
    → map found_result all ≡ flat_map (given_by w) sources → found ≡ all → ordered_ids order found ≡ expanded_ids zones cs c
found_same zones cs c s order seen sources w all found sight ordered given read window each same =
    ids_same zones cs c s order (ordered_ids order found) sight ordered
    (ap (ids_in_order order) (ap (map found_result) same ∙ each ∙ (λ i. flat_map (given_by (window i)) (read i)) ∙ given))

module _ (base : Base) (cs : List Change) (c : Criteria) (p : Paging) (ids : List (List ℕ)) (same : ids ≡ expanded_ids base.zones cs c) (r : Result Tree QueryError) where
  pub replied : IfOk r (λ t. t ≡ expanded_window base cs p ids (unwrap_or (cut_among p ids) no_window)) → IfOk r (λ t. t ≡ query_response base cs (occurrences_asked c p))
  replied h = subst (λ is. IfOk r (λ t. t ≡ expanded_window base cs p is (unwrap_or (cut_among p is) no_window))) same h

  told : is_paging p ≡ true → criteria_refusal base.zones c true ≡ None → missing_anchor (cut_among p ids) ≡ query_refusal base cs (occurrences_asked c p)
  told h k = (λ i. missing_anchor (cut_among p (same i))) ∙ sym (by_window base cs c p h k)

  pub answered : is_paging p ≡ true → criteria_refusal base.zones c true ≡ None → OnOk r (missing_anchor (cut_among p ids) ≡ None) → OnOk r (query_refusal base cs (occurrences_asked c p) ≡ None)
  answered h k g = subst (λ refusal. OnOk r (refusal ≡ None)) (told h k) g

  pub refused : is_paging p ≡ true → criteria_refusal base.zones c true ≡ None → IfErr r (λ e. Reports e (missing_anchor (cut_among p ids))) → IfErr r (λ e. Reports e (query_refusal base cs (occurrences_asked c p)))
  refused h k g = subst (λ refusal. IfErr r (λ e. Reports e refusal)) (told h k) g
