-- Results of queries (RFC 8620 section 5.5): items in the order of the comparators, equal ones in the order of the list.
use Rattle.std.specs.Prelude.{ℕ, List, ◌==◌, Bool, length, map, filter, flat_map, slice_index}
use Rattle.std.specs.List.{enumerate_from, range_with_len}
use Rattle.std.specs.Ordering.{is_lt, nat_cmp, ordering_then}
use Rattle.spec_queries.specs.declared.item.Item.{Item}
use Rattle.spec_queries.specs.declared.comparator.Comparator.{Comparator}
use Rattle.spec_queries.specs.Comparing.{by_all}

-- one numbered item precedes another by the first comparator that tells them apart, else by its number
abbrev pub precedes : List Comparator → ℕ × Item → ℕ × Item → Bool
precedes cs p q = is_lt (ordering_then (by_all cs p.1 q.1) (nat_cmp p.0 q.0))

-- how many of them precede this one
abbrev pub rank : List Comparator → List (ℕ × Item) → ℕ × Item → ℕ
rank cs ps p = length (filter (λ q. precedes cs q p) ps)

-- the list in which the place of each is the number of them that precede it
abbrev pub ranking : List Comparator → List (ℕ × Item) → List (ℕ × Item)
ranking cs ps = flat_map (λ k. filter (λ p. rank cs ps p == k) ps) (range_with_len 0 (length ps))

-- the places of the items in the list, in the order of the result
abbrev pub places : List Comparator → List Item → List ℕ
places cs items = map (λ p. p.0) (ranking cs (enumerate_from 0 items))

-- the numbers that stand at these places
abbrev pub numbers_at : List ℕ → List ℕ → List ℕ
numbers_at numbers ks = map (λ k. slice_index numbers k) ks
