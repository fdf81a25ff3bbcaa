-- What doesn't stand before one of a list is, in order, the rest of the list in order.
use Rattle.std.proofs.Common.{◌≡◌, ◌∙◌, ◌+◌, ◌-◌, ◌≤◌, ℕ, suc, List, [], ◌∷◌, Bool, true, false, cond, not, drop, filter, length, map, take, refl, sym, ap, arith}
use Rattle.std.proofs.lemmas.List.{drop-drop, drop-map, length-map}
use Rattle.std.proofs.lemmas.List.Sums.{count_by-le-length, length-filter}
use Rattle.std.specs.Cmp.{IsStrictWeakOrder}
use Rattle.spec_json.proofs.InOrderLemmas.{Above, Up, in_order_filter, up_in_order}
use Rattle.spec_json.specs.InOrder.{in_order}
use Rattle.query_order.proofs.TotalOrders.{by_all_ranks}
use Rattle.spec_queries.specs.Expanded.{ids_in_order}
use Rattle.spec_queries.specs.Found.{cut_out}
use Rattle.spec_queries.specs.declared.comparator.Comparator.{Comparator}
use Rattle.spec_queries.specs.declared.item.Item.{Item}
use Rattle.spec_queries.specs.declared.window.Cut.{Cut}
use Rattle.expanded_query.proofs.FirstLemmas.{as_long, ranked_filter}
use Rattle.expanded_query.proofs.OrderLemmas.{below, ids, ids_by_places}
use Rattle.expanded_query.proofs.WindowLemmas.{cut_map, same_part}
use Rattle.expanded_query.specs.Founds.{found_item, found_result, id_at, is_not_behind, ordered_ids, ranked_result}
use Rattle.expanded_query.specs.declared.found_occurrence.FoundOccurrence.{FoundOccurrence}
use Rattle.expanded_query.specs.declared.ranked.Ranked.{Ranked}

-- as many pass a test as there are, or fewer
fewer : {X : Type 0} (p : X → Bool) (xs : List X) → length (filter p xs) ≤ length xs
fewer p xs = let same = length-filter p xs in let most = count_by-le-length p xs in omega (arith, same, most)

module _ {X : Type 0} (lt : X → X → Bool) (o : IsStrictWeakOrder lt) (lower : X) where
  -- not before the lower one
  abbrev late : X → Bool
  late y = not (lt y lower)

  -- how many are before it
  abbrev passed : List X → ℕ
  passed ys = length ys - length (filter late ys)

  all_late : (y : X) (ys : List X) → lt y lower ≡ false → Above lt y ys → filter late ys ≡ ys
  all_late y [] h a = refl
  all_late y (z ∷ zs) h a =
      let kept : late z ≡ true = ap not (o.chain z y lower a.0 h) in
      ap (λ b. cond b (z ∷ filter late zs) (filter late zs)) kept ∙ ap (λ l. z ∷ l) (all_late y zs h a.1)

  last_step : (y : X) (ys : List X) → Up lt (y ∷ ys) → filter late ys ≡ drop (passed ys) ys → (b : Bool) → lt y lower ≡ b → filter late (y ∷ ys) ≡ drop (passed (y ∷ ys)) (y ∷ ys)
  last_step y ys u rest true e =
      let left : filter late (y ∷ ys) ≡ filter late ys = ap (λ b. cond (not b) (y ∷ filter late ys) (filter late ys)) e in
      let long = ap length left in
      let most = fewer late ys in
      let more : passed (y ∷ ys) ≡ suc (passed ys) = omega (arith, long, most) in
      left ∙ rest ∙ sym (ap (λ k. drop k (y ∷ ys)) more)
  last_step y ys u rest false e =
      let all : filter late (y ∷ ys) ≡ y ∷ ys = ap (λ b. cond (not b) (y ∷ filter late ys) (filter late ys)) e ∙ ap (λ l. y ∷ l) (all_late y ys e u.0) in
      let long = ap length all in
      let none : passed (y ∷ ys) ≡ 0 = omega (arith, long) in
      all ∙ sym (ap (λ k. drop k (y ∷ ys)) none)

  last_of_up : (ys : List X) → Up lt ys → filter late ys ≡ drop (passed ys) ys
  last_of_up [] u = refl
  last_of_up (y ∷ ys) u = last_step y ys u (last_of_up ys u.1) (lt y lower) refl

  -- of a list put in order
  last_late : (xs : List X) → in_order lt (filter late xs) ≡ drop (passed xs) (in_order lt xs)
  last_late xs =
      let same = in_order_filter lt o late xs in
      let most = as_long lt xs in
      let kept = ap length same ∙ as_long lt (filter late xs) in
      let count : passed (in_order lt xs) ≡ passed xs = omega (arith, most, kept) in
      sym same ∙ last_of_up (in_order lt xs) (up_in_order lt o xs) ∙ ap (λ k. drop k (in_order lt xs)) count

ids_late : (cs : List Comparator) (lower : List ℕ × Item) (ps : List (List ℕ × Item))
    → ids_in_order cs (filter (λ p. is_not_behind cs p.1 lower.1) ps) ≡ drop (length ps - length (filter (λ p. is_not_behind cs p.1 lower.1) ps)) (ids_in_order cs ps)
ids_late cs lower ps =
    let some = filter (λ p. is_not_behind cs p.1 lower.1) ps in
    let k = length ps - length some in
    ids_by_places cs some ∙ ap ids (last_late (below cs) (by_all_ranks cs (λ p. p.1)) lower ps)
    ∙ sym (drop-map (λ p. p.0) k (in_order (below cs) ps)) ∙ ap (drop k) (sym (ids_by_places cs ps))

-- the rest of all results, without those before the lower one
pub rest_ids : (cs : List Comparator) (lower : FoundOccurrence) (rest results : List Ranked) → rest ≡ filter (λ r. is_not_behind cs (found_item r.found.now) (found_item lower)) results
    → ids_in_order cs (map ranked_result rest) ≡ drop (length results - length rest) (ids_in_order cs (map ranked_result results))
rest_ids cs lower rest results is =
    let late = λ (p : List ℕ × Item). is_not_behind cs p.1 (found_item lower) in
    let same : map ranked_result rest ≡ filter late (map ranked_result results) = ap (map ranked_result) is ∙ ranked_filter late results in
    let kept = sym (length-map rest ranked_result) ∙ ap length same in
    let all = length-map results ranked_result in
    let count : length (map ranked_result results) - length (filter late (map ranked_result results)) ≡ length results - length rest = omega (arith, kept, all) in
    ap (ids_in_order cs) same ∙ ids_late cs (found_result lower) (map ranked_result results) ∙ ap (λ k. drop k (ids_in_order cs (map ranked_result results))) count

-- a window of what is left without some that come first
rest_part : {A : Type 0} (cut : Cut) (passed : ℕ) (xs : List A) → passed ≤ cut.from → cut_out (record { from = cut.from - passed; to = cut.to - passed }) (drop passed xs) ≡ cut_out cut xs
rest_part cut passed xs l =
    let from : passed + (cut.from - passed) ≡ cut.from = omega (arith, l) in
    let count : (cut.to - passed) - (cut.from - passed) ≡ cut.to - cut.from = omega (arith, l) in
    ap (take ((cut.to - passed) - (cut.from - passed))) (drop-drop (cut.from - passed) passed xs ∙ ap (λ k. drop k xs) from)
    ∙ ap (λ k. take k (drop cut.from xs)) count

-- nothing is passed over
pub all_left : (cs : List Comparator) (results : List Ranked) → ids_in_order cs (map ranked_result results) ≡ drop (length results - length results) (ids_in_order cs (map ranked_result results))
all_left cs results = let none : length results - length results ≡ 0 = omega arith in sym (ap (λ k. drop k (ids_in_order cs (map ranked_result results))) none)

-- the window of all that was found, by the first of the rest
pub window_found : (cs : List Comparator) (cut window : Cut) (passed : ℕ) (first rest results : List Ranked) (found : List FoundOccurrence)
    → passed ≡ length found - length rest → window.from ≡ cut.from - passed → window.to ≡ cut.to - passed
    → map ranked_result results ≡ map found_result found
    → ids_in_order cs (map ranked_result rest) ≡ drop (length results - length rest) (ids_in_order cs (map ranked_result results))
    → length results - length rest ≤ cut.from
    → take window.to (map id_at first) ≡ take window.to (ids_in_order cs (map ranked_result rest))
    → map id_at (cut_out window first) ≡ cut_out cut (ordered_ids cs found)
window_found cs cut window passed first rest results found is from to same late l early =
    let as_found = sym (length-map results ranked_result) ∙ ap length same ∙ length-map found found_result in
    let count : length results - length rest ≡ passed = omega (arith, is, as_found) in
    let within : passed ≤ cut.from = omega (arith, l, count) in
    let all = ids_in_order cs (map ranked_result results) in
    cut_map id_at window first ∙ same_part window (map id_at first) (ids_in_order cs (map ranked_result rest)) early
    ∙ ap (cut_out window) (late ∙ ap (λ n. drop n all) count)
    ∙ (λ i. take (to i - from i) (drop (from i) (drop passed all)))
    ∙ rest_part cut passed all within
    ∙ ap (λ ps. cut_out cut (ids_in_order cs ps)) same
