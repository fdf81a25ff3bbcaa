-- What a stable sort by comparators leaves.
use Rattle.std.proofs.Common.{◌≡◌, ℕ, List, map, ap}
use denote.Ref.{Bor}
use denote.Param.Members.{Mut}
use Rattle.std.specs.Fn.{Called}
use Rattle.std.specs.List.Sorted.{IsSortedByClosure, IsStableByClosure}
use Rattle.std.specs.declared.cmp.Ordering.{Ordering}
use Rattle.std.specs.Ordering.{is_lt}
use Rattle.spec_json.specs.InOrder.{in_order}
use Rattle.spec_json.proofs.InOrderLemmas.{sorted_in_order}
use Rattle.spec_queries.specs.declared.item.Item.{Item}
use Rattle.spec_queries.specs.declared.comparator.Comparator.{Comparator}
use Rattle.spec_queries.specs.Comparing.{by_all}
use Rattle.query_order.specs.Ordered.{by_item}
use Rattle.query_order.specs.Numbered.{numbered_item}
use Rattle.query_order.proofs.TotalOrders.{by_all_ranks}

pub sorted_by_comparators : (cs : List Comparator) {F : Type 0} {g : Mut F (Bor (ℕ × Bor Item) × (Bor (ℕ × Bor Item) × Unit {0})) Ordering} {f : F} (xs ys : List (ℕ × Bor Item))
    → IsSortedByClosure g f ys → IsStableByClosure g f xs ys
    → ((a : Bor (ℕ × Bor Item) × (Bor (ℕ × Bor Item) × Unit {0})) (r : Ordering) (f' : F) → Called g f a r f' → (r ≡ by_all cs a.0.now.1.now a.1.0.now.1.now) × (f' ≡ f))
    → map numbered_item ys ≡ in_order (by_item cs) (map numbered_item xs)
sorted_by_comparators cs xs ys sorted stable h =
    sorted_in_order numbered_item (by_item cs) (by_all_ranks cs (λ x. x.1.now)) xs ys sorted stable (λ a r f' k. (ap is_lt (h a r f' k).0, (h a r f' k).1))
