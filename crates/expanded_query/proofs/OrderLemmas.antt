-- Occurrences put in order have the ids that stand at the places of their items.
use Rattle.std.proofs.Common.{◌≡◌, ◌∙◌, ℕ, ◌+◌, List, [], ◌∷◌, ◌++◌, Bool, append_assoc, ap, get_or, is_lt, length, length-append, map, refl, sym}
use Rattle.std.proofs.lemmas.Simd.{map-map}
use Rattle.std.specs.Fn.{Called}
use Rattle.std.specs.List.{enumerate_from}
use Rattle.std.specs.List.Sorted.{IsSortedByClosure, IsStableByClosure}
use Rattle.std.specs.declared.cmp.Ordering.{Ordering}
use denote.Param.Members.{Mut}
use denote.Ref.{Bor}
use Rattle.query_order.proofs.Places.{places_is}
use Rattle.query_order.proofs.TotalOrders.{by_all_ranks}
use Rattle.query_order.specs.Ordered.{ordered}
use Rattle.spec_json.proofs.InOrderLemmas.{in_order_map, sorted_in_order}
use Rattle.spec_json.specs.InOrder.{in_order}
use Rattle.spec_queries.specs.Comparing.{by_all}
use Rattle.spec_queries.specs.Expanded.{ids_in_order, ids_in_places}
use Rattle.spec_queries.specs.declared.comparator.Comparator.{Comparator}
use Rattle.spec_queries.specs.declared.item.Item.{Item}
use Rattle.expanded_query.specs.Founds.{found_item, id_at, ranked_result}
use Rattle.expanded_query.specs.declared.ranked.Ranked.{Ranked}

abbrev pub ids : List (List ℕ × Item) → List (List ℕ)
ids ps = map (λ p. p.0) ps

abbrev items : List (List ℕ × Item) → List Item
items ps = map (λ p. p.1) ps

at_front : (front : List (List ℕ × Item)) (p : List ℕ × Item) (ps : List (List ℕ × Item)) → get_or (ids (front ++ p ∷ ps)) (length front) [] ≡ p.0
at_front [] p ps = refl
at_front (q ∷ front) p ps = at_front front p ps

abbrev named : List (List ℕ × Item) → ℕ × Item → List ℕ × Item
named ps q = (get_or (ids ps) q.0 [], q.1)

-- the places of the items, named by the ids, are the list
named_back : (ps front : List (List ℕ × Item)) → map (named (front ++ ps)) (enumerate_from (length front) (items ps)) ≡ ps
named_back [] front = refl
named_back (p ∷ ps) front =
    let more = front ++ p ∷ [] in
    let rest : map (named (more ++ ps)) (enumerate_from (length more) (items ps)) ≡ ps = named_back ps more in
    let same : map (named (more ++ ps)) (enumerate_from (length more) (items ps)) ≡ map (named (front ++ p ∷ ps)) (enumerate_from (length front + 1) (items ps)) =
    λ i. map (named (append_assoc front (p ∷ []) ps i)) (enumerate_from (length-append front (p ∷ []) i) (items ps)) in
    λ i. (at_front front p ps i, p.1) ∷ (sym same ∙ rest) i

module _ (cs : List Comparator) where
  abbrev pub below : List ℕ × Item → List ℕ × Item → Bool
  below p q = is_lt (by_all cs p.1 q.1)

  pub ids_by_places : (ps : List (List ℕ × Item)) → ids_in_order cs ps ≡ ids (in_order below ps)
  ids_by_places ps =
      let numbered = enumerate_from 0 (items ps) in
      ap (ids_in_places (ids ps)) (places_is cs (items ps))
      ∙ map-map (λ k. get_or (ids ps) k []) (λ q. q.0) (ordered cs numbered)
      ∙ sym (map-map (λ q. q.0) (named ps) (ordered cs numbered))
      ∙ ap (map (λ q. q.0)) (sym (in_order_map (named ps) below numbered) ∙ ap (in_order below) (named_back ps []))

  -- what a stable sort by the comparators leaves
  pub sorted_ids : {F : Type 0} {g : Mut F (Bor Ranked × (Bor Ranked × Unit {0})) Ordering} {f : F} (xs ys : List Ranked)
      → IsSortedByClosure g f ys → IsStableByClosure g f xs ys
      → ((a : Bor Ranked × (Bor Ranked × Unit {0})) (r : Ordering) (f' : F) → Called g f a r f' → (r ≡ by_all cs (found_item a.0.now.found.now) (found_item a.1.0.now.found.now)) × (f' ≡ f))
      → map id_at ys ≡ ids_in_order cs (map ranked_result xs)
  sorted_ids xs ys sorted stable h =
      sym (map-map (λ p. p.0) ranked_result ys)
      ∙ ap ids (sorted_in_order ranked_result below (by_all_ranks cs (λ r. found_item r.found.now)) xs ys sorted stable (λ a r f' k. (ap is_lt (h a r f' k).0, (h a r f' k).1)))
      ∙ sym (ids_by_places (map ranked_result xs))
