-- A calendar that is live was given a number, so it stands among the calendars of its account.
use Rattle.std.proofs.Common.{◌≡◌, ◌==◌, ◌&&◌, ◌||◌, Bool, true, false, cond, ℕ, List, [], ◌∷◌, ◌++◌, Option, Some, None, is_some, filter, option_and_then, if◌then◌else◌, arith, refl, sym, ap, ◌∙◌}
use Rattle.std.proofs.lemmas.Bool.{false≢true}
use Rattle.std.proofs.lemmas.Bool.Decides.{nat_tests}
use Rattle.std.proofs.lemmas.List.Folds.{list_any-append}
use Rattle.spec_events.specs.Events.{names_calendar}
use Rattle.spec_history.specs.History.{ids_at, ids_from, is_kind, live_object, object_from, with_id}
use Rattle.spec_history.specs.Pages.{is_in}
use Rattle.spec_history.specs.declared.entry.Change.{Change}
use Rattle.spec_history.specs.declared.entry.Kind.{Kind}
use Rattle.spec_history.specs.declared.entry.Kind.TheVariants.{Calendar}
use Rattle.spec_json.specs.Data.{Data}
use Rattle.spec_json.specs.declared.tree.Tree.{Tree}
use Rattle.spec_bookings.specs.Resources.{is_resource, resources_at, resources_of, zone_of_resource}

same_number : (a b : ℕ) → (a == b) ≡ true → (b == a) ≡ true
same_number a b e = grind (arith, nat_tests)

in_with_by : (ids : List ℕ) (id q : ℕ) (known : Bool) → is_in ids id ≡ known → is_in ids q ≡ true → is_in (cond known ids (ids ++ id ∷ [])) q ≡ true
in_with_by ids id q true is h = h
in_with_by ids id q false is h = rw (list_any-append, h) refl

-- what was in stays in
in_with : (ids : List ℕ) (id q : ℕ) → is_in ids q ≡ true → is_in (with_id ids id) q ≡ true
in_with ids id q h = in_with_by ids id q (is_in ids id) refl h

put_in_by : (ids : List ℕ) (id : ℕ) (known : Bool) → is_in ids id ≡ known → is_in (cond known ids (ids ++ id ∷ [])) id ≡ true
put_in_by ids id true is = is
put_in_by ids id false is = rw (list_any-append, is, same_number id id (grind (arith, nat_tests))) refl

in_put : (ids : List ℕ) (id : ℕ) → is_in (with_id ids id) id ≡ true
in_put ids id = put_in_by ids id (is_in ids id) refl

step_by : (ids : List ℕ) (before o : Option Tree) (c id : ℕ) (kind same : Bool) → (id == c) ≡ same → (is_some before ≡ true → is_in ids id ≡ true)
    → is_some (cond (kind && same) o before) ≡ true → is_in (cond kind (with_id ids c) ids) id ≡ true
step_by ids before o c id false same is h live = h live
step_by ids before o c id true false is h live = in_with ids c id (h live)
step_by ids before o c id true true is h live = grind (arith, nat_tests, in_put)

-- an object that is live was given its number
pub numbered_if_live : (cs : List Change) (kind : Kind) (id : ℕ) (before : Option Tree) (ids : List ℕ) → (is_some before ≡ true → is_in ids id ≡ true)
    → is_some (object_from before cs kind id) ≡ true → is_in (ids_from ids cs kind) id ≡ true
numbered_if_live [] kind id before ids h live = h live
numbered_if_live (c ∷ cs) kind id before ids h live =
    numbered_if_live cs kind id _ _ (λ l. step_by ids before c.object c.id id (is_kind kind c.kind) (id == c.id) refl h l) live

live_by : (o : Option Tree) → is_some (option_and_then zone_of_resource o) ≡ true → is_some o ≡ true
live_by None h = h
live_by (Some t) h = refl

-- a resource calendar is live
pub resource_is_live : (cs : List Change) (n : ℕ) → is_resource cs n ≡ true → is_some (live_object cs Calendar n) ≡ true
resource_is_live cs n h = live_by (live_object cs Calendar n) h

-- Numbers that pass a test are among those that are filtered by it.

kept_by : (p : ℕ → Bool) (m n : ℕ) (ns : List ℕ) (same passes : Bool) → (m == n) ≡ same → p m ≡ passes → p n ≡ true → (is_in ns n ≡ true → is_in (filter p ns) n ≡ true)
    → (same || is_in ns n) ≡ true → is_in (if passes then m ∷ filter p ns else filter p ns) n ≡ true
kept_by p m n ns true true e f h next there = rw e refl
kept_by p m n ns true false e f h next there =
    let same : m ≡ n = grind (arith, nat_tests) in
    absurd (false≢true (sym f ∙ ap p same ∙ h))
kept_by p m n ns false true e f h next there = rw e (next there)
kept_by p m n ns false false e f h next there = next there

pub in_filter : (p : ℕ → Bool) (ns : List ℕ) (n : ℕ) → p n ≡ true → is_in ns n ≡ true → is_in (filter p ns) n ≡ true
in_filter p [] n h there = there
in_filter p (m ∷ ns) n h there = kept_by p m n ns (m == n) (p m) refl refl h (in_filter p ns n h) there

-- a resource calendar that an event is in stands among those that it is in
pub resource_is_found : (cs : List Change) (d : Data) (n : ℕ) → is_resource cs n ≡ true → names_calendar n d ≡ true → is_in (resources_of cs d) n ≡ true
resource_is_found cs d n resource named =
    in_filter (λ m. names_calendar m d) (resources_at cs) n named
    (in_filter (is_resource cs) (ids_at cs Calendar) n resource
    (numbered_if_live cs Calendar n None [] (λ e. absurd (false≢true e)) (resource_is_live cs n resource)))
