-- Comparators are total orders: any two items compare, and less is transitive.
use Rattle.std.proofs.Common.{List, [], ◌∷◌, Bool, true, false, if◌then◌else◌, refl}
use Rattle.std.specs.Cmp.{IsTotalOrder, IsStrictWeakOrder}
use Rattle.std.specs.Ordering.{is_lt}
use Rattle.std.specs.declared.cmp.Ordering.TheVariants.{Equal}
use Rattle.std.proofs.lemmas.Cmp.{int_cmp_total, nat_list_cmp_total, on_total, then_total, back_total}
use Rattle.std.proofs.lemmas.List.Sorted.{ranks_by}
use Rattle.spec_queries.specs.declared.item.Item.{Item}
use Rattle.spec_queries.specs.declared.comparator.Property.{Property}
use Rattle.spec_queries.specs.declared.comparator.Property.TheVariants.{Start, Uid, Title, Created, Updated}
use Rattle.spec_queries.specs.declared.comparator.Comparator.{Comparator}
use Rattle.spec_queries.specs.Comparing.{by_property, by_all}

by_property_total : (p : Property) → IsTotalOrder (by_property p)
by_property_total Start = on_total (λ i. i.start) int_cmp_total
by_property_total Uid = on_total (λ i. i.uid) nat_list_cmp_total
by_property_total Title = on_total (λ i. i.title) nat_list_cmp_total
by_property_total Created = on_total (λ i. i.created) int_cmp_total
by_property_total Updated = on_total (λ i. i.updated) int_cmp_total

either_way : (b : Bool) (p : Property) → IsTotalOrder (λ x y. if b then by_property p x y else by_property p y x)
either_way true p = by_property_total p
either_way false p = back_total (by_property_total p)

none_total : {X : Type 0} → IsTotalOrder {K = X} (λ x y. Equal)
none_total = record { antisymm = λ x y. refl; trans = λ x y z h k. h; congr = λ x y z h. refl }

pub by_all_total : (cs : List Comparator) → IsTotalOrder (by_all cs)
by_all_total [] = none_total
by_all_total (c ∷ cs) = then_total (either_way c.ascending c.property) (by_all_total cs)

pub by_all_ranks : (cs : List Comparator) {X : Type 0} (item : X → Item) → IsStrictWeakOrder (λ x y. is_lt (by_all cs (item x) (item y)))
by_all_ranks cs item = ranks_by (by_all_total cs) item
