-- The place of an anchor that only one of what was found has, without putting all in order.
use Rattle.std.proofs.Common.{◌≡◌, ◌∙◌, ◌+◌, ◌<◌, ℕ, zero, suc, List, [], ◌∷◌, ◌++◌, Bool, true, false, Some, None, cond, drop, filter, get_or, length, length-append, map, position, refl, sym, take, ap, arith}
use Rattle.std.proofs.lemmas.List.{drop-map, drop_more, get_or-map, length-map, take-append-drop, take-map}
use Rattle.std.proofs.lemmas.List.Elements.{filter-append}
use Rattle.std.proofs.lemmas.List.Quantifiers.{position-Some}
use Rattle.std.proofs.lemmas.Option.{same_Some}
use Rattle.std.proofs.lemmas.Simd.{map-map}
use Rattle.std.specs.List.{position_from}
use Rattle.std.specs.Ordering.{is_lt}
use Rattle.spec_json.proofs.InOrderLemmas.{in_order_filter}
use Rattle.spec_json.specs.InOrder.{in_order}
use Rattle.query_order.proofs.TotalOrders.{by_all_ranks}
use Rattle.spec_queries.specs.Comparing.{by_all}
use Rattle.spec_queries.specs.Expanded.{ids_in_order}
use Rattle.spec_queries.specs.declared.comparator.Comparator.{Comparator}
use Rattle.spec_queries.specs.declared.item.Item.{Item}
use Rattle.expanded_query.proofs.FirstLemmas.{as_long, ranked_filter}
use Rattle.expanded_query.proofs.OrderLemmas.{below, ids, ids_by_places}
use Rattle.expanded_query.proofs.PlaceLemmas.{no_place, place_behind, stands}
use Rattle.expanded_query.proofs.WindowLemmas.{position_start}
use Rattle.expanded_query.specs.Founds.{found_item, found_result, id_at, is_not_behind, ordered_ids, ranked_result}
use Rattle.expanded_query.specs.declared.found_occurrence.FoundOccurrence.{FoundOccurrence}
use Rattle.expanded_query.specs.declared.ranked.Ranked.{Ranked}

module _ (u : List ℕ → Bool) where
  -- those whose ids pass
  abbrev pub having : List (List ℕ × Item) → List (List ℕ × Item)
  having ps = filter (λ p. u p.0) ps

  none_step : (p : List ℕ × Item) (ps : List (List ℕ × Item)) (k : ℕ) → (position_from u (k + 1) (ids ps) ≡ None → length (having ps) ≡ 0) → position_from u k (ids (p ∷ ps)) ≡ None
      → (b : Bool) → u p.0 ≡ b → length (having (p ∷ ps)) ≡ 0
  none_step p ps k rest h true e = cc (sym (ap (λ b. cond b (Some k) (position_from u (k + 1) (ids ps))) e) ∙ h)
  none_step p ps k rest h false e =
      ap (λ b. length (cond b (p ∷ having ps) (having ps))) e ∙ rest (sym (ap (λ b. cond b (Some k) (position_from u (k + 1) (ids ps))) e) ∙ h)

  none_having : (ps : List (List ℕ × Item)) (k : ℕ) → position_from u k (ids ps) ≡ None → length (having ps) ≡ 0
  none_having [] k h = refl
  none_having (p ∷ ps) k h = none_step p ps k (none_having ps (k + 1)) h (u p.0) refl

  before_step : (p : List ℕ × Item) (ps : List (List ℕ × Item)) (k n : ℕ) → (position_from u (k + 1) (ids ps) ≡ Some (k + 1 + n) → length (having (take n ps)) ≡ 0)
      → position_from u k (ids (p ∷ ps)) ≡ Some (k + suc n) → (b : Bool) → u p.0 ≡ b → length (having (p ∷ take n ps)) ≡ 0
  before_step p ps k n rest h true e =
      let same = same_Some k (k + suc n) (sym (ap (λ b. cond b (Some k) (position_from u (k + 1) (ids ps))) e) ∙ h) in
      absurd (omega (arith, same))
  before_step p ps k n rest h false e =
      let count : k + suc n ≡ k + 1 + n = omega arith in
      ap (λ b. length (cond b (p ∷ having (take n ps)) (having (take n ps)))) e
      ∙ rest (sym (ap (λ b. cond b (Some k) (position_from u (k + 1) (ids ps))) e) ∙ h ∙ ap Some count)

  none_before : (ps : List (List ℕ × Item)) (k n : ℕ) → position_from u k (ids ps) ≡ Some (k + n) → length (having (take n ps)) ≡ 0
  none_before ps k zero h = refl
  none_before [] k (suc n) h = refl
  none_before (p ∷ ps) k (suc n) h = before_step p ps k n (none_before ps (k + 1) n) h (u p.0) refl

  module _ (cs : List Comparator) where
    having_in_order : (ps : List (List ℕ × Item)) → length (having (in_order (below cs) ps)) ≡ length (having ps)
    having_in_order ps = ap length (in_order_filter (below cs) (by_all_ranks cs (λ p. p.1)) (λ p. u p.0) ps) ∙ as_long (below cs) (having ps)

    place_in_order : (front back : List (List ℕ × Item)) (x : List ℕ × Item) → length (having front) ≡ 0 → length (having back) ≡ 0 → u x.0 ≡ true
        → position u (ids_in_order cs (front ++ x ∷ back)) ≡ Some (length (filter (λ p. is_not_behind cs x.1 p.1) front) + length (filter (λ p. is_lt (by_all cs p.1 x.1)) back))
    place_in_order front back x none others h =
        let ps = front ++ x ∷ back in
        let s = stands (below cs) (by_all_ranks cs (λ p. p.1)) x front back in
        let before = s.0 in
        let behind = s.1.0 in
        let is = s.1.1.0 in
        let at = s.1.1.1.0 in
        let all = ap length (filter-append (λ p. u p.0) front (x ∷ back)) ∙ length-append (having front) (having (x ∷ back)) in
        let own = ap (λ b. length (cond b (x ∷ having back) (having back))) h in
        let kept = having_in_order ps in
        let parts = ap (λ zs. length (having zs)) is ∙ ap length (filter-append (λ p. u p.0) before (x ∷ behind)) ∙ length-append (having before) (having (x ∷ behind)) in
        let told = ap (λ b. length (cond b (x ∷ having behind) (having behind))) h in
        let first : length (having before) ≡ 0 = omega (arith, all, own, kept, parts, told, none, others) in
        let count : 0 + length before ≡ length (filter (λ p. is_not_behind cs x.1 p.1) front) + length (filter (λ p. is_lt (by_all cs p.1 x.1)) back) = omega (arith, at) in
        ap (position u) (ids_by_places cs ps ∙ ap ids is) ∙ sym (position_start u (ids (before ++ x ∷ behind)))
        ∙ place_behind (λ p. p.0) u before behind x 0 first h ∙ ap Some count

    no_place_in_order : (ps : List (List ℕ × Item)) → length (having ps) ≡ 0 → position u (ids_in_order cs ps) ≡ None
    no_place_in_order ps none =
        ap (position u) (ids_by_places cs ps) ∙ sym (position_start u (ids (in_order (below cs) ps))) ∙ no_place (λ p. p.0) u (in_order (below cs) ps) 0 (having_in_order ps ∙ none)

-- as many results pass a test as what they stand for
as_many : (p : List ℕ × Item → Bool) (rs : List Ranked) → length (filter p (map ranked_result rs)) ≡ length (filter (λ r. p (ranked_result r)) rs)
as_many p rs = sym (ap length (ranked_filter p rs)) ∙ length-map (filter (λ r. p (ranked_result r)) rs) ranked_result

ids_of : (rs : List Ranked) → ids (map ranked_result rs) ≡ map id_at rs
ids_of rs = map-map (λ p. p.0) ranked_result rs

-- the results before one, it, and those behind it
parted : (at : ℕ) (one : Ranked) (rs : List Ranked) → at < length rs → one ≡ get_or rs at one → map ranked_result rs ≡ map ranked_result (take at rs) ++ ranked_result one ∷ map ranked_result (drop (at + 1) rs)
parted at one rs l is =
    let ps = map ranked_result rs in
    sym (take-append-drop at ps)
    ∙ (λ i. take-map ranked_result at rs i ++ drop-map ranked_result at rs i)
    ∙ ap (λ qs. map ranked_result (take at rs) ++ map ranked_result qs) (drop_more rs at one l ∙ ap (λ r. r ∷ drop (at + 1) rs) (sym is))

-- no result has the anchor
pub no_anchor : (cs : List Comparator) (u : List ℕ → Bool) (rs : List Ranked) (found : List FoundOccurrence) → map ranked_result rs ≡ map found_result found
    → None ≡ position u (map id_at rs) → None ≡ position u (ordered_ids cs found)
no_anchor cs u rs found same h =
    let none = none_having u (map ranked_result rs) 0 (position_start u (ids (map ranked_result rs)) ∙ ap (position u) (ids_of rs) ∙ sym h) in
    sym (no_place_in_order u cs (map ranked_result rs) none) ∙ ap (λ ps. position u (ids_in_order cs ps)) same

-- only one has it: those that precede it are counted
pub anchor_place : (cs : List Comparator) (u : List ℕ → Bool) (at : ℕ) (one : Ranked) (rs : List Ranked) (found : List FoundOccurrence) → at < length rs → one ≡ get_or rs at one
    → map ranked_result rs ≡ map found_result found → Some at ≡ position u (map id_at rs) → None ≡ position u (map id_at (drop (at + 1) rs))
    → Some (length (filter (λ r. is_not_behind cs (found_item one.found.now) (found_item r.found.now)) (take at rs)) + length (filter (λ r. is_lt (by_all cs (found_item r.found.now) (found_item one.found.now))) (drop (at + 1) rs)))
    ≡ position u (ordered_ids cs found)
anchor_place cs u at one rs found l is same here behind =
    let x = ranked_result one in
    let front = map ranked_result (take at rs) in
    let back = map ranked_result (drop (at + 1) rs) in
    let start : position_from u 0 (ids (map ranked_result rs)) ≡ Some (0 + at) =
    position_start u (ids (map ranked_result rs)) ∙ ap (position u) (ids_of rs) ∙ sym here ∙ ap Some (omega arith) in
    let none : length (having u front) ≡ 0 = ap (λ ps. length (having u ps)) (sym (take-map ranked_result at rs)) ∙ none_before u (map ranked_result rs) 0 at start in
    let others : length (having u back) ≡ 0 = none_having u back 0 (position_start u (ids back) ∙ ap (position u) (ids_of (drop (at + 1) rs)) ∙ sym behind) in
    let found_at = position-Some u (map id_at rs) at (id_at one) (sym here) in
    let own : u x.0 ≡ true = ap (λ r. u (id_at r)) is ∙ ap u (sym (get_or-map id_at rs at one (id_at one) l)) ∙ found_at.1 in
    let count : length (filter (λ p. is_not_behind cs x.1 p.1) front) + length (filter (λ p. is_lt (by_all cs p.1 x.1)) back)
    ≡ length (filter (λ r. is_not_behind cs (found_item one.found.now) (found_item r.found.now)) (take at rs)) + length (filter (λ r. is_lt (by_all cs (found_item r.found.now) (found_item one.found.now))) (drop (at + 1) rs)) =
    λ i. as_many (λ p. is_not_behind cs x.1 p.1) (take at rs) i + as_many (λ p. is_lt (by_all cs p.1 x.1)) (drop (at + 1) rs) i in
    ap Some (sym count) ∙ sym (place_in_order u cs front back x none others own) ∙ ap (λ ps. position u (ids_in_order cs ps)) (sym (parted at one rs l is) ∙ same)
