-- Results at two histories agree on what no change between them touched.
use Rattle.std.proofs.Common.{◌≡◌, ℕ, List, [], ◌∷◌, ◌++◌, ◌==◌, Bool, true, false, cond, not, ◌&&◌, ◌||◌, Option, Some, None, map, filter, flat_map, refl, sym, ap, ap₂, ◌∙◌, append_assoc, append-nil, eq-eqb, take, drop, take-append-drop}
use Rattle.std.proofs.lemmas.Bool.{cond_both, or_right, or_parts, not-true}
use Rattle.std.proofs.lemmas.Cmp.{nat_eq_equiv}
use Rattle.std.proofs.lemmas.List.Elements.{filter-append}
use Rattle.std.specs.List.{list_any}
use Rattle.spec_history.specs.declared.entry.Change.{Change}
use Rattle.spec_history.specs.declared.entry.Kind.TheVariants.{Event}
use Rattle.spec_json.specs.declared.tree.Tree.{Tree}
use Rattle.spec_history.specs.History.{is_kind, names, object_from, live_object, with_id, ids_from, ids_at}
use Rattle.spec_queries.specs.declared.item.Item.{Item}
use Rattle.spec_queries.specs.declared.comparator.Comparator.{Comparator}
use Rattle.spec_json.specs.InOrder.{in_order}
use Rattle.query_order.specs.Ordered.{by_item, ordered_numbers}
use Rattle.spec_history.specs.Pages.{is_in}
use Rattle.spec_queries.specs.QueryChangesLead.{Lead, StandAlike}
use Rattle.spec_queries.specs.Matching.{with_number, match_of, matches, touched_by, of_events, result_of, result_at, touched_since}
use Rattle.query_order.proofs.TotalOrders.{by_all_ranks}
use Rattle.spec_json.proofs.InOrderLemmas.{in_order_filter}
use Rattle.query_order.proofs.Places.{named_places}
use Rattle.query_order.proofs.Splicing.{change_leads}

-- of lists of items to results

filter_map_swap : {X Y : Type 0} (u : Y → Bool) (f : X → Y) (xs : List X) → filter u (map f xs) ≡ map f (filter (λ x. u (f x)) xs)
filter_map_swap u f [] = refl
filter_map_swap u f (x ∷ xs) = by_test (u (f x)) u f x xs (filter_map_swap u f xs)
  where
    by_test : {X Y : Type 0} (b : Bool) (u : Y → Bool) (f : X → Y) (x : X) (xs : List X) → filter u (map f xs) ≡ map f (filter (λ x. u (f x)) xs)
        → cond b (f x ∷ filter u (map f xs)) (filter u (map f xs)) ≡ map f (cond b (x ∷ filter (λ x. u (f x)) xs) (filter (λ x. u (f x)) xs))
    by_test true u f x xs h = ap (λ l. f x ∷ l) h
    by_test false u f x xs h = h

-- leaving events out before or after they are put in order comes to the same
kept_numbers : (cs : List Comparator) (u : ℕ → Bool) (ps : List (ℕ × Item)) → filter u (ordered_numbers cs ps) ≡ ordered_numbers cs (filter (λ p. u p.0) ps)
kept_numbers cs u ps =
    filter_map_swap u (λ p. p.0) (in_order (by_item cs) ps)
    ∙ ap (map (λ p. p.0)) (in_order_filter (by_item cs) (by_all_ranks cs (λ p. p.1)) (λ p. u p.0) ps)

pub results_agree : (cs : List Comparator) (u : ℕ → Bool) (ps qs : List (ℕ × Item)) → filter (λ p. u p.0) ps ≡ filter (λ p. u p.0) qs → filter u (ordered_numbers cs ps) ≡ filter u (ordered_numbers cs qs)
results_agree cs u ps qs same = kept_numbers cs u ps ∙ ap (ordered_numbers cs) same ∙ sym (kept_numbers cs u qs)

-- of histories to lists of items

object_after : (before : Option Tree) (h more : List Change) (id : ℕ) → object_from before (h ++ more) Event id ≡ object_from (object_from before h Event id) more Event id
object_after before [] more id = refl
object_after before (c ∷ h) more id = object_after (cond (names Event id c) c.object before) h more id

ids_after : (h : List Change) (ids : List ℕ) (more : List Change) → ids_from ids (h ++ more) Event ≡ ids_from (ids_from ids h Event) more Event
ids_after [] ids more = refl
ids_after (c ∷ h) ids more = ids_after h (cond (is_kind Event c.kind) (with_id ids c.id) ids) more

-- what a change does to an event that it and the later ones don't name
not_named : (k : Bool) (c : Change) (cs : List Change) (id : ℕ) → is_in (map (λ c. c.id) (cond k (c ∷ filter (λ c. is_kind Event c.kind) cs) (filter (λ c. is_kind Event c.kind) cs))) id ≡ false
    → ((k && (id == c.id)) ≡ false) × (is_in (touched_by cs) id ≡ false)
not_named true c cs id h = let p = or_parts (c.id == id) (is_in (touched_by cs) id) h in (nat_eq_equiv.symm id c.id ∙ p.0, p.1)
not_named false c cs id h = (refl, h)

object_stays : (more : List Change) (before : Option Tree) (id : ℕ) → is_in (touched_by more) id ≡ false → object_from before more Event id ≡ before
object_stays [] before id h = refl
object_stays (c ∷ cs) before id h =
    let p = not_named (is_kind Event c.kind) c cs id h in
    ap (λ t. object_from (cond t c.object before) cs Event id) p.0 ∙ object_stays cs before id p.1

flat_map_push : {X : Type 0} (f : ℕ → List X) (ids : List ℕ) (id : ℕ) → flat_map f (ids ++ id ∷ []) ≡ flat_map f ids ++ f id
flat_map_push f [] id = append-nil (f id)
flat_map_push f (x ∷ ids) id = ap (λ l. f x ++ l) (flat_map_push f ids id) ∙ sym (append_assoc (f x) (flat_map f ids) (f id))

module _ (see : Tree → Option Item) (u : ℕ → Bool) where
  abbrev kept : List (ℕ × Item) → List (ℕ × Item)
  kept ps = filter (λ p. u p.0) ps

  none_numbered : (id : ℕ) (o : Option Item) → u id ≡ false → kept (with_number id o) ≡ []
  none_numbered id None h = refl
  none_numbered id (Some item) h = ap (λ t. cond t ((id, item) ∷ []) []) h

  pub none_kept : (id : ℕ) (o : Option Tree) → u id ≡ false → kept (match_of see id o) ≡ []
  none_kept id None h = refl
  none_kept id (Some t) h = none_numbered id (see t) h

  same_kept : (b : Bool) (id : ℕ) (o q : Option Tree) → u id ≡ b → (b ≡ true → o ≡ q) → kept (match_of see id o) ≡ kept (match_of see id q)
  same_kept true id o q e h = ap (λ o. kept (match_of see id o)) (h refl)
  same_kept false id o q e h = none_kept id o e ∙ sym (none_kept id q e)

  objects_same : (a b : ℕ → Option Tree) → ((id : ℕ) → u id ≡ true → a id ≡ b id) → (ids : List ℕ) → kept (flat_map (λ id. match_of see id (a id)) ids) ≡ kept (flat_map (λ id. match_of see id (b id)) ids)
  objects_same a b h [] = refl
  objects_same a b h (id ∷ ids) =
      filter-append (λ p. u p.0) (match_of see id (a id)) (flat_map (λ id. match_of see id (a id)) ids)
      ∙ ap₂ (◌++◌) (same_kept (u id) id (a id) (b id) refl (h id)) (objects_same a b h ids)
      ∙ sym (filter-append (λ p. u p.0) (match_of see id (b id)) (flat_map (λ id. match_of see id (b id)) ids))

  module _ (a : ℕ → Option Tree) where
    abbrev all : List ℕ → List (ℕ × Item)
    all ids = flat_map (λ id. match_of see id (a id)) ids

    id_noted : (ids : List ℕ) (id : ℕ) → u id ≡ false → kept (all (with_id ids id)) ≡ kept (all ids)
    id_noted ids id h =
        cond_both (list_any (λ n. n == id) ids) ids (ids ++ id ∷ []) (λ l. kept (all l) ≡ kept (all ids)) (λ _. refl)
        (λ _. ap kept (flat_map_push (λ id. match_of see id (a id)) ids id) ∙ filter-append (λ p. u p.0) (all ids) (match_of see id (a id)) ∙ ap (λ l. kept (all ids) ++ l) (none_kept id (a id) h) ∙ append-nil (kept (all ids)))

    noted_step : (k : Bool) (c : Change) (cs : List Change) (ids : List ℕ)
        → ((id : ℕ) → is_in (map (λ c. c.id) (cond k (c ∷ filter (λ c. is_kind Event c.kind) cs) (filter (λ c. is_kind Event c.kind) cs))) id ≡ true → u id ≡ false)
        → ((ids : List ℕ) → ((id : ℕ) → is_in (touched_by cs) id ≡ true → u id ≡ false) → kept (all (ids_from ids cs Event)) ≡ kept (all ids))
        → kept (all (ids_from (cond k (with_id ids c.id) ids) cs Event)) ≡ kept (all ids)
    noted_step true c cs ids h more =
        more (with_id ids c.id) (λ id p. h id (or_right (c.id == id) (is_in (touched_by cs) id) p))
        ∙ id_noted ids c.id (h c.id (ap (λ t. t || is_in (touched_by cs) c.id) (eq-eqb c.id c.id refl)))
    noted_step false c cs ids h more = more ids h

    ids_noted : (more : List Change) (ids : List ℕ) → ((id : ℕ) → is_in (touched_by more) id ≡ true → u id ≡ false) → kept (all (ids_from ids more Event)) ≡ kept (all ids)
    ids_noted [] ids h = refl
    ids_noted (c ∷ cs) ids h = noted_step (is_kind Event c.kind) c cs ids h (λ ids h. ids_noted cs ids h)

-- later changes touch nothing of the events that they don't name
pub matches_agree : (see : Tree → Option Item) (h more : List Change) → filter (λ p. not (is_in (touched_by more) p.0)) (matches see (h ++ more)) ≡ filter (λ p. not (is_in (touched_by more) p.0)) (matches see h)
matches_agree see h more =
    let u : ℕ → Bool = λ id. not (is_in (touched_by more) id) in
    let now : ℕ → Option Tree = λ id. live_object (h ++ more) Event id in
    ap (λ ids. filter (λ p. u p.0) (flat_map (λ id. match_of see id (now id)) ids)) (ids_after h [] more)
    ∙ ids_noted see u now more (ids_at h Event) (λ id p. ap not p)
    ∙ objects_same see u now (λ id. live_object h Event id) (λ id e. object_after None h more id ∙ object_stays more (live_object h Event id) id (not-true (is_in (touched_by more) id) e)) (ids_at h Event)

-- the changes of events alone

object_step : (k : Bool) (c : Change) (cs : List Change) (before : Option Tree) (id : ℕ) → is_kind Event c.kind ≡ k
    → ((b : Option Tree) → object_from b (of_events cs) Event id ≡ object_from b cs Event id)
    → object_from before (cond k (c ∷ of_events cs) (of_events cs)) Event id ≡ object_from (cond (names Event id c) c.object before) cs Event id
object_step true c cs before id e h = h (cond (names Event id c) c.object before)
object_step false c cs before id e h = h before ∙ ap (λ k. object_from (cond (k && (id == c.id)) c.object before) cs Event id) (sym e)

pub object_of_events : (cs : List Change) (before : Option Tree) (id : ℕ) → object_from before (of_events cs) Event id ≡ object_from before cs Event id
object_of_events [] before id = refl
object_of_events (c ∷ cs) before id = object_step (is_kind Event c.kind) c cs before id refl (λ b. object_of_events cs b id)

ids_step : (k : Bool) (c : Change) (cs : List Change) (ids : List ℕ) → is_kind Event c.kind ≡ k
    → ((b : List ℕ) → ids_from b (of_events cs) Event ≡ ids_from b cs Event)
    → ids_from ids (cond k (c ∷ of_events cs) (of_events cs)) Event ≡ ids_from (cond (is_kind Event c.kind) (with_id ids c.id) ids) cs Event
ids_step true c cs ids e h = h (cond (is_kind Event c.kind) (with_id ids c.id) ids)
ids_step false c cs ids e h = h ids ∙ ap (λ k. ids_from (cond k (with_id ids c.id) ids) cs Event) (sym e)

pub ids_of_events : (cs : List Change) (ids : List ℕ) → ids_from ids (of_events cs) Event ≡ ids_from ids cs Event
ids_of_events [] ids = refl
ids_of_events (c ∷ cs) ids = ids_step (is_kind Event c.kind) c cs ids refl (λ b. ids_of_events cs b)

-- changes of other kinds don't matter to events
pub matches_of_events : (see : Tree → Option Item) (cs : List Change) → matches see (of_events cs) ≡ matches see cs
matches_of_events see cs i = flat_map (λ id. match_of see id (object_of_events cs None id i)) (ids_of_events cs [] i)

-- at state k, when the client has seen k changes of events, and now
pub untouched_agree : (see : Tree → Option Item) (order : List Comparator) (cs : List Change) (k : ℕ) → StandAlike (result_at see order cs k) (result_of see order cs) (touched_since cs k)
untouched_agree see order cs k =
    let es = of_events cs in
    let u : ℕ → Bool = λ id. not (is_in (touched_since cs k) id) in
    let all : matches see (take k es ++ drop k es) ≡ matches see cs = ap (matches see) (take-append-drop k es) ∙ matches_of_events see cs in
    let agree : filter (λ p. u p.0) (matches see (take k es)) ≡ filter (λ p. u p.0) (matches see cs) = sym (matches_agree see (take k es) (drop k es)) ∙ ap (filter (λ p. u p.0)) all in
    ap (filter u) (named_places order (matches see (take k es))) ∙ results_agree order u (matches see (take k es)) (matches see cs) agree ∙ ap (filter u) (sym (named_places order (matches see cs)))

pub results_lead_at : (see : Tree → Option Item) (order : List Comparator) (cs : List Change) (k : ℕ) → Lead (result_at see order cs k) (result_of see order cs) (touched_since cs k)
results_lead_at see order cs k = change_leads (result_at see order cs k) (result_of see order cs) (touched_since cs k) (untouched_agree see order cs k)
