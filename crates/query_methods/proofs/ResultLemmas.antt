-- Results at states, by the events that are looked at.
use Rattle.std.proofs.Common.{◌≡◌, ℕ, Bool, true, false, true≢false, cond, List, [], ◌∷◌, ◌++◌, ◌+◌, ◌<◌, Option, Some, None, append_assoc, drop, filter, get_or, flat_map, is_some, length, map, take, refl, sym, ap, ◌∙◌}
use Rattle.std.proofs.Math.Seq.{take-length}
use Rattle.std.proofs.lemmas.List.{drop_more, map-append}
use Rattle.std.proofs.lemmas.List.Elements.{filter-append}
use Rattle.std.proofs.lemmas.List.Sums.{length-filter}
use Rattle.account_store.proofs.EarlierLemmas.{live_first}
use Rattle.account_store.proofs.LiveLemmas.{some_given}
use Rattle.account_store.specs.Earlier.{changes_up_to, live_ids, touched_ids}
use Rattle.spec_history.specs.History.{changes_of, ids_at, is_kind, live_object, count_of_kind}
use Rattle.spec_history.specs.Pages.{is_in, is_touched, mentions}
use Rattle.spec_history.specs.declared.entry.Change.{Change}
use Rattle.spec_history.specs.declared.entry.Entry.{Entry}
use Rattle.spec_history.specs.declared.entry.Kind.TheVariants.{Event}
use Rattle.spec_json.specs.InOrder.{in_order, put_in}
use Rattle.spec_json.specs.declared.tree.Tree.{Tree}
use Rattle.spec_queries.specs.Changed.{delta_since}
use Rattle.spec_queries.specs.Matching.{match_of, matches, of_events, result_at, result_of, touched_since, with_number}
use Rattle.spec_queries.specs.QueryChanges.{delta_of, indexed}
use Rattle.spec_queries.specs.Results.{numbers_at, places}
use Rattle.spec_queries.specs.declared.comparator.Comparator.{Comparator}
use Rattle.spec_queries.specs.declared.item.Item.{Item}
use Rattle.query_methods.specs.Among.{matches_among, number_if, result_among}
use Rattle.query_methods.proofs.TouchedLemmas.{named_since, touched_are}
use Rattle.query_order.proofs.Histories.{none_kept, object_of_events, results_agree}
use Rattle.query_order.proofs.Places.{named_places}
use Rattle.query_order.specs.Ordered.{by_item}

-- ---- looking at the live events alone

no_match : (see : Tree → Option Item) (id : ℕ) (o : Option Tree) → is_some o ≡ false → match_of see id o ≡ []
no_match see id None h = refl
no_match see id (Some t) h = absurd (true≢false h)

pub matches_of_live : (see : Tree → Option Item) (cs : List Change) → matches_among see cs (live_ids cs Event) ≡ matches see cs
matches_of_live see cs = some_given (λ id. match_of see id (live_object cs Event id)) (λ id. is_some (live_object cs Event id)) (λ id. no_match see id (live_object cs Event id)) (ids_at cs Event)

-- ---- the state that a history has come to

same_matches : (see : Tree → Option Item) (a b : ℕ → Option Tree) → ((id : ℕ) → a id ≡ b id) → (ids : List ℕ) → flat_map (λ id. match_of see id (a id)) ids ≡ flat_map (λ id. match_of see id (b id)) ids
same_matches see a b same ids i = flat_map (λ id. match_of see id (same id i)) ids

-- the result at that state, of the live events, is that of the history
pub result_now : (see : Tree → Option Item) (order : List Comparator) (es : List Entry) (k : ℕ) → k ≡ count_of_kind (changes_of es) Event
    → result_among see order (changes_up_to es Event k) (live_ids (changes_of es) Event) ≡ result_of see order (changes_of es)
result_now see order es k is =
    let cs = changes_of es in
    let all = of_events cs in
    let counted : k ≡ length all = is ∙ sym (length-filter (λ c. is_kind Event c.kind) cs) in
    ap (λ ds. result_among see order ds (live_ids cs Event)) (ap (λ n. take n all) counted ∙ take-length all)
    ∙ ap (λ ps. numbers_at (map (λ p. p.0) ps) (places order (map (λ p. p.1) ps)))
    (same_matches see (λ id. live_object all Event id) (λ id. live_object cs Event id) (λ id. object_of_events cs None id) (live_ids cs Event) ∙ matches_of_live see cs)

-- ---- where nothing is compared

put_first : (p : ℕ × Item) (ps : List (ℕ × Item)) → put_in (by_item []) p ps ≡ p ∷ ps
put_first p [] = refl
put_first p (q ∷ ps) = refl

as_they_stand : (ps : List (ℕ × Item)) → in_order (by_item []) ps ≡ ps
as_they_stand [] = refl
as_they_stand (p ∷ ps) = ap (put_in (by_item []) p) (as_they_stand ps) ∙ put_first p ps

-- the result is in order of creation
pub result_uncompared : (see : Tree → Option Item) (order : List Comparator) (cs : List Change) (numbers : List ℕ) → order ≡ [] → map (λ p. p.0) (matches_among see cs numbers) ≡ result_among see order cs numbers
result_uncompared see order cs numbers none =
    sym (ap (λ o. result_among see o cs numbers) none ∙ named_places [] (matches_among see cs numbers) ∙ ap (map (λ p. p.0)) (as_they_stand (matches_among see cs numbers)))

pub number_told : (see : Tree → Option Item) (id : ℕ) (t : Tree) (b : Bool) → b ≡ is_some (see t) → number_if b id ≡ map (λ p. p.0) (match_of see id (Some t))
number_told see id t b is = ap (λ b. number_if b id) is ∙ by_item_seen (see t)
  where
    by_item_seen : (o : Option Item) → number_if (is_some o) id ≡ map (λ p. p.0) (with_number id o)
    by_item_seen None = refl
    by_item_seen (Some item) = refl

-- one more that was looked at
module _ {X : Type 0} (f : ℕ × Item → X) (see : Tree → Option Item) (cs : List Change) where
  pub one_matched : (found later : List X) (ids : List ℕ) (i : ℕ) (o : Option Item) → i < length ids → found ++ map f (matches_among see cs (drop i ids)) ≡ map f (matches_among see cs ids)
      → with_number (get_or ids i 0) o ≡ match_of see (get_or ids i 0) (live_object cs Event (get_or ids i 0)) → later ≡ found ++ map f (with_number (get_or ids i 0) o)
      → later ++ map f (matches_among see cs (drop (i + 1) ids)) ≡ map f (matches_among see cs ids)
  one_matched found later ids i o lt before here is =
      let rest = matches_among see cs (drop (i + 1) ids) in
      let ones = with_number (get_or ids i 0) o in
      ap (λ l. l ++ map f rest) is ∙ append_assoc found (map f ones) (map f rest)
      ∙ ap (λ l. found ++ l) (sym (map-append f ones rest) ∙ ap (λ l. map f (l ++ rest)) here ∙ ap (λ l. map f (matches_among see cs l)) (sym (drop_more ids i 0 lt))) ∙ before

-- ---- looking at touched events alone

module _ (see : Tree → Option Item) (u : ℕ → Bool) (a : ℕ → Option Tree) where
  abbrev all_of : List ℕ → List (ℕ × Item)
  all_of ids = flat_map (λ id. match_of see id (a id)) ids

  kept_step : (id : ℕ) (ids : List ℕ) (b : Bool) → u id ≡ b → filter (λ p. u p.0) (all_of (filter u ids)) ≡ filter (λ p. u p.0) (all_of ids)
      → filter (λ p. u p.0) (all_of (cond b (id ∷ filter u ids) (filter u ids))) ≡ filter (λ p. u p.0) (match_of see id (a id) ++ all_of ids)
  kept_step id ids true is rest =
      filter-append (λ p. u p.0) (match_of see id (a id)) (all_of (filter u ids)) ∙ ap (λ l. filter (λ p. u p.0) (match_of see id (a id)) ++ l) rest
      ∙ sym (filter-append (λ p. u p.0) (match_of see id (a id)) (all_of ids))
  kept_step id ids false is rest =
      rest ∙ ap (λ l. l ++ filter (λ p. u p.0) (all_of ids)) (sym (none_kept see u id (a id) is))
      ∙ sym (filter-append (λ p. u p.0) (match_of see id (a id)) (all_of ids))

  -- whoever is left out afterwards need not be looked at
  kept_among : (ids : List ℕ) → filter (λ p. u p.0) (all_of (filter u ids)) ≡ filter (λ p. u p.0) (all_of ids)
  kept_among [] = refl
  kept_among (id ∷ ids) = kept_step id ids (u id) refl (kept_among ids)

-- looking at numbers that were given since, beside those of a state, changes nothing
matches_with_later : (see : Tree → Option Item) (es : List Entry) (k : ℕ) → matches_among see (changes_up_to es Event k) (ids_at (changes_of es) Event) ≡ matches see (changes_up_to es Event k)
matches_with_later see es k =
    let cs = changes_up_to es Event k in
    let seen : ℕ → List (ℕ × Item) = λ id. match_of see id (live_object cs Event id) in
    let live : ℕ → Bool = λ id. is_some (live_object cs Event id) in
    sym (some_given seen live (λ id. no_match see id (live_object cs Event id)) (ids_at (changes_of es) Event))
    ∙ ap (flat_map seen) (live_first (changes_of es) Event k) ∙ some_given seen live (λ id. no_match see id (live_object cs Event id)) (ids_at cs Event)

pub touched_result : (see : Tree → Option Item) (order : List Comparator) (es : List Entry) (k : ℕ) (touched : List ℕ) → touched ≡ touched_ids (changes_of es) Event k
    → filter (is_in touched) (result_among see order (changes_up_to es Event k) touched) ≡ filter (is_in touched) (result_at see order (changes_of es) k)
touched_result see order es k touched is =
    let all = changes_of es in
    let cs = changes_up_to es Event k in
    let named : ℕ → Bool = is_touched (mentions Event all) k (count_of_kind all Event) in
    let same : (id : ℕ) → is_in touched id ≡ named id = λ id. ap (λ (l : List ℕ). is_in l id) is ∙ touched_are all k id in
    let some = matches_among see cs touched in
    let kept : filter (λ p. named p.0) some ≡ filter (λ p. named p.0) (matches see cs) =
    ap (λ l. filter (λ p. named p.0) (matches_among see cs l)) is ∙ kept_among see named (λ id. live_object cs Event id) (ids_at all Event) ∙ ap (filter (λ p. named p.0)) (matches_with_later see es k) in
    let before : filter (λ p. is_in touched p.0) some ≡ filter (λ p. named p.0) some = λ i. filter (λ p. same p.0 i) some in
    let after : filter (λ p. is_in touched p.0) (matches see cs) ≡ filter (λ p. named p.0) (matches see cs) = λ i. filter (λ p. same p.0 i) (matches see cs) in
    ap (filter (is_in touched)) (named_places order some) ∙ results_agree order (is_in touched) some (matches see cs) (before ∙ kept ∙ sym after)
    ∙ ap (filter (is_in touched)) (sym (named_places order (matches see cs)))

same_touched : (cs : List Change) (k : ℕ) (touched : List ℕ) → touched ≡ touched_ids cs Event k → (id : ℕ) → is_in touched id ≡ is_in (touched_since cs k) id
same_touched cs k touched t id = ap (λ (l : List ℕ). is_in l id) t ∙ touched_are cs k id ∙ named_since cs k id

-- what changed of those that were touched is what changed
pub delta_is : (see : Tree → Option Item) (order : List Comparator) (cs : List Change) (k : ℕ) (before now touched : List ℕ) → touched ≡ touched_ids cs Event k
    → filter (is_in touched) before ≡ filter (is_in touched) (result_at see order cs k) → now ≡ result_of see order cs → delta_of before now touched ≡ delta_since see order cs k
delta_is see order cs k before now touched t b n = same_removed b ∙ same_numbers (same_touched cs k touched t) ∙ ap (λ (l : List ℕ). delta_of (result_at see order cs k) l (touched_since cs k)) n
  where
    same_removed : filter (is_in touched) before ≡ filter (is_in touched) (result_at see order cs k) → delta_of before now touched ≡ delta_of (result_at see order cs k) now touched
    same_removed h i = record { removed = h i; added = indexed (is_in touched) 0 now }

    same_numbers : ((id : ℕ) → is_in touched id ≡ is_in (touched_since cs k) id) → delta_of (result_at see order cs k) now touched ≡ delta_of (result_at see order cs k) now (touched_since cs k)
    same_numbers h i = record { removed = filter (λ id. h id i) (result_at see order cs k); added = indexed (λ id. h id i) 0 now }
