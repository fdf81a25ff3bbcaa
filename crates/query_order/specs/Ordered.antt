-- Numbered items put in order by the comparators of a query.
use Rattle.std.specs.Prelude.{ℕ, map, List, Bool}
use Rattle.std.specs.Ordering.{is_lt}
use Rattle.spec_json.specs.InOrder.{in_order}
use Rattle.spec_queries.specs.declared.item.Item.{Item}
use Rattle.spec_queries.specs.declared.comparator.Comparator.{Comparator}
use Rattle.spec_queries.specs.Comparing.{by_all}

-- by the items alone, whatever number stands beside each
abbrev pub by_item : List Comparator → ℕ × Item → ℕ × Item → Bool
by_item cs p q = is_lt (by_all cs p.1 q.1)

abbrev pub ordered : List Comparator → List (ℕ × Item) → List (ℕ × Item)
ordered cs ps = in_order (by_item cs) ps

abbrev pub ordered_numbers : List Comparator → List (ℕ × Item) → List ℕ
ordered_numbers cs ps = map (λ p. p.0) (ordered cs ps)
