-- The first of what is put in order are found among those that stand no later than one.
use Rattle.std.proofs.Common.{◌≡◌, ◌∙◌, ℕ, zero, suc, ◌≤◌, List, [], ◌∷◌, Bool, true, false, true≢false, cond, not, filter, length, map, take, refl, sym, ap, arith}
use Rattle.std.proofs.lemmas.Bool.{cond_both}
use Rattle.std.proofs.lemmas.List.{length-map, take-map}
use Rattle.std.specs.Cmp.{IsStrictWeakOrder}
use Rattle.spec_json.proofs.InOrderLemmas.{Above, Up, in_order_filter, up_in_order}
use Rattle.spec_json.specs.InOrder.{in_order, put_in}
use Rattle.query_order.proofs.TotalOrders.{by_all_ranks}
use Rattle.spec_calls.specs.declared.call.Paging.{Paging}
use Rattle.spec_queries.specs.Expanded.{anchor_among, cut_among, ids_in_order}
use Rattle.spec_queries.specs.Found.{cut_asked}
use Rattle.spec_queries.specs.declared.window.Anchor.{Anchor}
use Rattle.spec_queries.specs.declared.comparator.Comparator.{Comparator}
use Rattle.spec_queries.specs.declared.item.Item.{Item}
use Rattle.expanded_query.proofs.OrderLemmas.{below, ids, ids_by_places}
use Rattle.expanded_query.specs.Founds.{found_item, found_result, id_at, ordered_ids, is_not_behind, ranked_result}
use Rattle.expanded_query.specs.declared.found_occurrence.FoundOccurrence.{FoundOccurrence}
use Rattle.expanded_query.specs.declared.ranked.Ranked.{Ranked}

module _ {X : Type 0} (lt : X → X → Bool) (o : IsStrictWeakOrder lt) (last : X) where
  -- not behind the last
  abbrev early : X → Bool
  early x = not (lt last x)

  not_early : (x : X) → early x ≡ false → lt last x ≡ true
  not_early x h = by_value (lt last x) h
    where
      by_value : (b : Bool) → not b ≡ false → b ≡ true
      by_value true e = refl
      by_value false e = absurd (true≢false e)

  -- what isn't less than one behind the last is behind it
  late_too : (y z : X) → lt last y ≡ true → lt z y ≡ false → lt last z ≡ true
  late_too y z h k = by_value (lt last z) refl
    where
      by_value : (b : Bool) → lt last z ≡ b → b ≡ true
      by_value true e = refl
      by_value false e = absurd (true≢false (sym h ∙ o.chain last z y e k))

  none_early : (y : X) (ys : List X) → lt last y ≡ true → Above lt y ys → filter early ys ≡ []
  none_early y [] h a = refl
  none_early y (z ∷ zs) h a = ap (λ b. cond (not b) (z ∷ filter early zs) (filter early zs)) (late_too y z h a.0) ∙ none_early y zs h a.1

  first_step : (n : ℕ) (y : X) (ys : List X) → Up lt (y ∷ ys) → suc n ≤ length (filter early (y ∷ ys)) → (n ≤ length (filter early ys) → take n (filter early ys) ≡ take n ys)
      → (b : Bool) → early y ≡ b → take (suc n) (filter early (y ∷ ys)) ≡ y ∷ take n ys
  first_step n y ys u l rest true e =
      let kept : filter early (y ∷ ys) ≡ y ∷ filter early ys = ap (λ b. cond b (y ∷ filter early ys) (filter early ys)) e in
      let long = ap length kept in
      ap (take (suc n)) kept ∙ ap (λ l. y ∷ l) (rest (omega (arith, l, long)))
  first_step n y ys u l rest false e =
      let none : filter early (y ∷ ys) ≡ [] = ap (λ b. cond b (y ∷ filter early ys) (filter early ys)) e ∙ none_early y ys (not_early y e) u.0 in
      let short = ap length none in
      absurd (omega (arith, l, short))

  first_of_up : (n : ℕ) (ys : List X) → Up lt ys → n ≤ length (filter early ys) → take n (filter early ys) ≡ take n ys
  first_of_up zero ys u l = refl
  first_of_up (suc n) [] u l = refl
  first_of_up (suc n) (y ∷ ys) u l = first_step n y ys u l (first_of_up n ys u.1) (early y) refl

  -- of a list put in order
  pub first_early : (n : ℕ) (xs : List X) → n ≤ length (in_order lt (filter early xs)) → take n (in_order lt (filter early xs)) ≡ take n (in_order lt xs)
  first_early n xs l =
      let same = in_order_filter lt o early xs in
      let long = ap length same in
      ap (take n) (sym same) ∙ first_of_up n (in_order lt xs) (up_in_order lt o xs) (omega (arith, l, long))

module _ {X : Type 0} (lt : X → X → Bool) where
  pub longer_put : (x : X) (ys : List X) → length (put_in lt x ys) ≡ suc (length ys)
  longer_put x [] = refl
  longer_put x (y ∷ ys) = cond_both (lt y x) (y ∷ put_in lt x ys) (x ∷ y ∷ ys) (λ l. length l ≡ suc (suc (length ys))) (λ _. ap suc (longer_put x ys)) (λ _. refl)

  pub as_long : (xs : List X) → length (in_order lt xs) ≡ length xs
  as_long [] = refl
  as_long (x ∷ xs) = longer_put x (in_order lt xs) ∙ ap suc (as_long xs)

-- as many ids as results
pub ids_length : (cs : List Comparator) (found : List FoundOccurrence) → length (ordered_ids cs found) ≡ length found
ids_length cs found =
    let ps = map found_result found in
    ap length (ids_by_places cs ps) ∙ length-map (in_order (below cs) ps) (λ p. p.0) ∙ as_long (below cs) ps ∙ length-map found found_result

ids_early : (cs : List Comparator) (last : List ℕ × Item) (n : ℕ) (ps : List (List ℕ × Item)) → n ≤ length (ids_in_order cs (filter (λ p. is_not_behind cs last.1 p.1) ps))
    → take n (ids_in_order cs (filter (λ p. is_not_behind cs last.1 p.1) ps)) ≡ take n (ids_in_order cs ps)
ids_early cs last n ps l =
    let some = filter (λ p. is_not_behind cs last.1 p.1) ps in
    let long = ap length (ids_by_places cs some) ∙ length-map (in_order (below cs) some) (λ p. p.0) in
    ap (take n) (ids_by_places cs some) ∙ take-map (λ p. p.0) n (in_order (below cs) some)
    ∙ ap ids (first_early (below cs) (by_all_ranks cs (λ p. p.1)) last n ps (omega (arith, l, long)))
    ∙ sym (take-map (λ p. p.0) n (in_order (below cs) ps)) ∙ ap (take n) (sym (ids_by_places cs ps))

-- the first of all results, where those up to the last are enough
pub first_ids : (cs : List Comparator) (last : FoundOccurrence) (n : ℕ) (first results : List Ranked)
    → map id_at first ≡ ids_in_order cs (filter (λ p. is_not_behind cs (found_item last) p.1) (map ranked_result results)) → n ≤ length first → take n (map id_at first) ≡ take n (ids_in_order cs (map ranked_result results))
first_ids cs last n first results is l =
    let long = sym (length-map first id_at) ∙ ap length is in
    ap (take n) is ∙ ids_early cs (found_result last) n (map ranked_result results) (omega (arith, l, long))

-- those of what was found
pub first_found : (cs : List Comparator) (n : ℕ) (first results : List Ranked) (found : List FoundOccurrence)
    → map ranked_result results ≡ map found_result found → take n (map id_at first) ≡ take n (ids_in_order cs (map ranked_result results)) → take n (map id_at first) ≡ take n (ordered_ids cs found)
first_found cs n first results found same is = is ∙ ap (λ ps. take n (ids_in_order cs ps)) same

-- the window that a query asks for
pub same_cut : (p : Paging) (ids : List (List ℕ)) (total : ℕ) (anchor : Anchor) → total ≡ length ids → anchor ≡ anchor_among ids p.anchor → cut_asked p total anchor ≡ cut_among p ids
same_cut p ids total anchor e a i = cut_asked p (e i) (a i)

-- a test of what results stand for
module _ (p : List ℕ × Item → Bool) where
  abbrev passing : List Ranked → List Ranked
  passing rs = filter (λ r. p (ranked_result r)) rs

  put_or_not : (r : Ranked) (rs : List Ranked) (b : Bool) → map ranked_result (passing rs) ≡ filter p (map ranked_result rs)
      → map ranked_result (cond b (r ∷ passing rs) (passing rs)) ≡ cond b (ranked_result r ∷ filter p (map ranked_result rs)) (filter p (map ranked_result rs))
  put_or_not r rs true rest = ap (λ l. ranked_result r ∷ l) rest
  put_or_not r rs false rest = rest

  pub ranked_filter : (rs : List Ranked) → map ranked_result (passing rs) ≡ filter p (map ranked_result rs)
  ranked_filter [] = refl
  ranked_filter (r ∷ rs) = put_or_not r rs (p (ranked_result r)) (ranked_filter rs)
