-- An order puts items in one order, whether they hold what it compares alone or more.
use Rattle.std.proofs.Common.{◌≡◌, ℕ, List, [], ◌∷◌, ◌++◌, cond, Option, Some, None, map, option_map, refl, sym, ap, ap₂, ◌∙◌}
use Rattle.std.proofs.lemmas.List.{map-append}
use Rattle.std.proofs.lemmas.Simd.{map-map}
use Rattle.std.specs.Cmp.Lexicographic.{slice_cmp}
use Rattle.std.specs.Ordering.{int_cmp, is_lt, nat_cmp, ordering_then}
use Rattle.spec_history.specs.History.{live_object}
use Rattle.spec_history.specs.declared.entry.Change.{Change}
use Rattle.spec_history.specs.declared.entry.Kind.TheVariants.{Event}
use Rattle.spec_json.proofs.InOrderLemmas.{in_order_map}
use Rattle.spec_json.specs.InOrder.{in_order}
use Rattle.spec_json.specs.declared.tree.Tree.{Tree}
use Rattle.spec_queries.specs.Comparing.{by_all, by_comparator, by_property}
use Rattle.spec_queries.specs.Matching.{match_of, with_number}
use Rattle.spec_queries.specs.declared.comparator.Comparator.{Comparator}
use Rattle.spec_queries.specs.declared.comparator.Property.{Property}
use Rattle.spec_queries.specs.declared.comparator.Property.TheVariants.{Start, Uid, Title, Created, Updated}
use Rattle.spec_queries.specs.declared.item.Item.{Item}
use Rattle.query_methods.specs.Among.{matches_among, result_among}
use Rattle.query_methods.specs.Compared.{blank, compared, seen_in, with_compared, with_property}
use Rattle.query_order.proofs.Places.{named_places}
use Rattle.query_order.specs.Ordered.{by_item, ordered_numbers}

-- ---- comparing

abbrev Same : Property → Item → Item → Type 0
Same Start a b = a.start ≡ b.start
Same Uid a b = a.uid ≡ b.uid
Same Title a b = a.title ≡ b.title
Same Created a b = a.created ≡ b.created
Same Updated a b = a.updated ≡ b.updated

put : (p : Property) (whole item : Item) → Same p (with_property whole p item) whole
put Start whole item = refl
put Uid whole item = refl
put Title whole item = refl
put Created whole item = refl
put Updated whole item = refl

put_beside : (p q : Property) (whole item : Item) → Same p item whole → Same p (with_property whole q item) whole
put_beside Start Start whole item h = refl
put_beside Uid Uid whole item h = refl
put_beside Title Title whole item h = refl
put_beside Created Created whole item h = refl
put_beside Updated Updated whole item h = refl
put_beside Start _ whole item h = h
put_beside Uid _ whole item h = h
put_beside Title _ whole item h = h
put_beside Created _ whole item h = h
put_beside Updated _ whole item h = h

stays : (p : Property) (cs : List Comparator) (whole item : Item) → Same p item whole → Same p (with_compared whole cs item) whole
stays p [] whole item h = h
stays p (c ∷ cs) whole item h = stays p cs whole (with_property whole c.property item) (put_beside p c.property whole item h)

by_property_same : (p : Property) (a b c d : Item) → Same p a c → Same p b d → by_property p a b ≡ by_property p c d
by_property_same Start a b c d h k = ap₂ int_cmp h k
by_property_same Uid a b c d h k = ap₂ (slice_cmp nat_cmp) h k
by_property_same Title a b c d h k = ap₂ (slice_cmp nat_cmp) h k
by_property_same Created a b c d h k = ap₂ int_cmp h k
by_property_same Updated a b c d h k = ap₂ int_cmp h k

by_comparator_same : (o : Comparator) (a b c d : Item) → Same o.property a c → Same o.property b d → by_comparator o a b ≡ by_comparator o c d
by_comparator_same o a b c d h k = ap₂ (cond o.ascending) (by_property_same o.property a b c d h k) (by_property_same o.property b a d c k h)

by_all_same : (cs : List Comparator) (a b s t : Item) → by_all cs (with_compared a cs s) (with_compared b cs t) ≡ by_all cs a b
by_all_same [] a b s t = refl
by_all_same (c ∷ cs) a b s t =
    let s' = with_property a c.property s in
    let t' = with_property b c.property t in
    ap₂ ordering_then
    (by_comparator_same c (with_compared a cs s') (with_compared b cs t') a b (stays c.property cs a s' (put c.property a s)) (stays c.property cs b t' (put c.property b t)))
    (by_all_same cs a b s' t')

-- ---- numbered items

abbrev part : List Comparator → ℕ × Item → ℕ × Item
part order p = (p.0, compared order p.1)

ordered_parts : (order : List Comparator) (ps : List (ℕ × Item)) → ordered_numbers order (map (part order) ps) ≡ ordered_numbers order ps
ordered_parts order ps =
    let by_part = λ (p q : ℕ × Item). by_item order (part order p) (part order q) in
    let same : by_part ≡ by_item order = λ i p q. is_lt (by_all_same order p.1 q.1 blank blank i) in
    ap (map (λ p. p.0)) (in_order_map (part order) (by_item order) ps)
    ∙ map-map (λ p. p.0) (part order) (in_order by_part ps)
    ∙ ap (λ lt. map (λ p. p.0) (in_order lt ps)) same

numbered_part : (order : List Comparator) (id : ℕ) (o : Option Item) → with_number id (option_map (compared order) o) ≡ map (part order) (with_number id o)
numbered_part order id None = refl
numbered_part order id (Some item) = refl

match_part : (see : Tree → Option Item) (order : List Comparator) (id : ℕ) (o : Option Tree) → match_of (seen_in order see) id o ≡ map (part order) (match_of see id o)
match_part see order id None = refl
match_part see order id (Some t) = numbered_part order id (see t)

parts_among : (see : Tree → Option Item) (order : List Comparator) (cs : List Change) (numbers : List ℕ) → matches_among (seen_in order see) cs numbers ≡ map (part order) (matches_among see cs numbers)
parts_among see order cs [] = refl
parts_among see order cs (id ∷ ids) =
    ap₂ (◌++◌) (match_part see order id (live_object cs Event id)) (parts_among see order cs ids)
    ∙ sym (map-append (part order) (match_of see id (live_object cs Event id)) (matches_among see cs ids))

pub result_compared : (see : Tree → Option Item) (order : List Comparator) (cs : List Change) (numbers : List ℕ) → result_among (seen_in order see) order cs numbers ≡ result_among see order cs numbers
result_compared see order cs numbers =
    named_places order (matches_among (seen_in order see) cs numbers)
    ∙ ap (ordered_numbers order) (parts_among see order cs numbers)
    ∙ ordered_parts order (matches_among see cs numbers)
    ∙ sym (named_places order (matches_among see cs numbers))
