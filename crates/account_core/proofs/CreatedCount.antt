-- How many objects changes create.
use Rattle.std.proofs.Common.{◌≡◌, ◌∙◌, ◌≤◌, ◌+◌, ◌++◌, ◌∷◌, ◌==◌, ℕ, List, [], Bool, true, false, if◌then◌else◌, length, length-append, arith, sym, ap}
use Rattle.std.specs.List.{list_any, range_with_len}
use Rattle.account_opening.proofs.NumberedLemmas.{AreInOrder}
use Rattle.spec_history.specs.History.{ids_at, ids_from, is_kind, with_id}
use Rattle.spec_history.specs.declared.entry.Change.{Change}
use Rattle.spec_history.specs.declared.entry.Kind.{Kind}
use Rattle.spec_history.specs.declared.entry.Kind.TheVariants.{Calendar, Event}

one_id_more : (b : Bool) (ids : List ℕ) (id : ℕ) → length (if b then ids else ids ++ id ∷ []) ≤ length ids + 1
one_id_more true ids id = omega arith
one_id_more false ids id = let l = length-append ids (id ∷ []) in omega (arith, l)

ids_by : (b : Bool) (ids more : List ℕ) → length more ≤ length ids + 1 → length (if b then more else ids) ≤ length ids + 1
ids_by true ids more h = h
ids_by false ids more h = omega arith

few_ids_from : (ids : List ℕ) (cs : List Change) (kind : Kind) → length (ids_from ids cs kind) ≤ length ids + length cs
few_ids_from ids [] kind = omega arith
few_ids_from ids (c ∷ cs) kind =
    let rest = few_ids_from (if is_kind kind c.kind then with_id ids c.id else ids) cs kind in
    let one = ids_by (is_kind kind c.kind) ids (with_id ids c.id) (one_id_more (list_any (λ n. n == c.id) ids) ids c.id) in
    omega (arith, rest, one)

-- no more objects than there were changes
pub few_ids : (cs : List Change) (kind : Kind) → length (ids_at cs kind) ≤ length cs
few_ids cs kind = let few = few_ids_from [] cs kind in omega (arith, few)

-- what counts those of each kind tells the numbers
pub numbers_told : (count : Kind → ℕ) (cs : List Change) → AreInOrder cs → count Calendar ≡ length (ids_at cs Calendar) → count Event ≡ length (ids_at cs Event) → (kind : Kind) → ids_at cs kind ≡ range_with_len 1 (count kind)
numbers_told count cs h calendars events Calendar = h Calendar ∙ ap (range_with_len 1) (sym calendars)
numbers_told count cs h calendars events Event = h Event ∙ ap (range_with_len 1) (sym events)
