-- A list put in order is the result.
use Rattle.std.proofs.Common.{◌≡◌, ℕ, zero, suc, ◌+◌, ◌<◌, ◌≤◌, List, [], ◌∷◌, ◌++◌, All, map, length, get_or, refl, ap, sym, ◌∙◌, arith, append_assoc, length-append, subst₂, IsPermutation}
use Rattle.std.specs.List.{enumerate_from, range_with_len}
use Rattle.spec_queries.specs.declared.item.Item.{Item}
use Rattle.spec_queries.specs.declared.comparator.Comparator.{Comparator}
use Rattle.spec_queries.specs.Comparing.{by_all}
use Rattle.spec_queries.specs.Results.{places, numbers_at}
use Rattle.query_order.specs.Ordered.{by_item, ordered, ordered_numbers}
use Rattle.std.proofs.lemmas.List.Elements.{All-nil, All-cons}
use Rattle.std.proofs.lemmas.List.Sorted.{All-permutation, IsPermutation-map}
use Rattle.spec_json.proofs.InOrderLemmas.{in_order_map}
use Rattle.query_order.proofs.TotalOrders.{by_all_total}
use Rattle.query_order.proofs.Ranks.{shuffled_in_order}
use Rattle.query_order.proofs.Rankings.{by_count_is, rising_from}
use Rattle.std.proofs.lemmas.Cmp.{on_total}
use Rattle.std.proofs.lemmas.Simd.{map-map}

-- what `result` gives, and how the sort comes to it
pub places_is : (cs : List Comparator) (items : List Item) → places cs items ≡ ordered_numbers cs (enumerate_from 0 items)
places_is cs items = ap (map (λ p. p.0)) (by_count_is (by_all cs) (by_all_total cs) (enumerate_from 0 items) (rising_from (by_all cs) (by_all_total cs) 0 items))

-- places name the items of a list that has numbers of its own

at_front : (front : List (ℕ × Item)) (p : ℕ × Item) (ps : List (ℕ × Item)) → get_or (map (λ p. p.0) (front ++ p ∷ ps)) (length front) 0 ≡ p.0
at_front [] p ps = refl
at_front (q ∷ front) p ps = at_front front p ps

abbrev named : List (ℕ × Item) → ℕ × Item → ℕ × Item
named ps q = (get_or (map (λ p. p.0) ps) q.0 0, q.1)

-- the places of a numbered list, named by its numbers, are that list
named_back : (ps front : List (ℕ × Item)) → map (named (front ++ ps)) (enumerate_from (length front) (map (λ p. p.1) ps)) ≡ ps
named_back [] front = refl
named_back (p ∷ ps) front =
    let more = front ++ p ∷ [] in
    let rest : map (named (more ++ ps)) (enumerate_from (length more) (map (λ p. p.1) ps)) ≡ ps = named_back ps more in
    let same : map (named (more ++ ps)) (enumerate_from (length more) (map (λ p. p.1) ps)) ≡ map (named (front ++ p ∷ ps)) (enumerate_from (length front + 1) (map (λ p. p.1) ps)) =
    λ i. map (named (append_assoc front (p ∷ []) ps i)) (enumerate_from (length-append front (p ∷ []) i) (map (λ p. p.1) ps)) in
    λ i. (at_front front p ps i, p.1) ∷ (sym same ∙ rest) i

pub named_places : (cs : List Comparator) (ps : List (ℕ × Item)) → numbers_at (map (λ p. p.0) ps) (places cs (map (λ p. p.1) ps)) ≡ ordered_numbers cs ps
named_places cs ps =
    let numbered = enumerate_from 0 (map (λ p. p.1) ps) in
    ap (numbers_at (map (λ p. p.0) ps)) (places_is cs (map (λ p. p.1) ps)) ∙
    map-map (λ k. get_or (map (λ p. p.0) ps) k 0) (λ q. q.0) (ordered cs numbered)
    ∙ sym (map-map (λ q. q.0) (named ps) (ordered cs numbered))
    ∙ ap (map (λ q. q.0)) (sym (in_order_map (named ps) (by_item cs) numbered) ∙ ap (ordered cs) (named_back ps []))

-- each item has one place

numbers_of : (n : ℕ) (items : List Item) → map (λ p. p.0) (enumerate_from n items) ≡ range_with_len n (length items)
numbers_of n [] = refl
numbers_of n (i ∷ is) = ap (λ l. n ∷ l) (numbers_of (n + 1) is)

pub each_once : (cs : List Comparator) (items : List Item) → IsPermutation (range_with_len 0 (length items)) (places cs items)
each_once cs items =
    let o = on_total (λ (p : ℕ × Item). p.1) (by_all_total cs) in
    let numbered = enumerate_from 0 items in
    let moved = IsPermutation-map (λ p. p.0) numbered (ordered cs numbered) (shuffled_in_order (λ p q. by_all cs p.1 q.1) o (λ p. p.0) numbered) in
    subst₂ (λ xs ys. IsPermutation xs ys) (numbers_of 0 items) (sym (places_is cs items)) moved

range_below : (n m k : ℕ) → n + k ≤ m → All (λ i. i < m) (range_with_len n k)
range_below n m zero h = All-nil (λ i. i < m)
range_below n m (suc k) h = All-cons (λ i. i < m) n (range_with_len (n + 1) k) (omega (arith, h)) (range_below (n + 1) m k (omega (arith, h)))

pub places_below : (cs : List Comparator) (items : List Item) → All (λ k. k < length items) (places cs items)
places_below cs items = All-permutation (λ k. k < length items) (range_with_len 0 (length items)) (places cs items) (each_once cs items) (range_below 0 (length items) (length items) (omega arith))
