-- The entries in front of those that are kept.
use Rattle.std.proofs.Common.{◌≡◌, ◌⊎◌, ◌<◌, ◌+◌, ◌-◌, ◌++◌, ◌&&◌, ℕ, suc, List, [], ◌∷◌, Bool, true, false, drop, get_or, length, map, take, add-one, arith, refl, sym, ap, subst, ◌∙◌, length-append, if◌then◌else◌}
use Rattle.std.proofs.lemmas.Bool.{and_left, false≢true}
use Rattle.std.proofs.lemmas.List.{drop_more, length-map, map-append, map-id, take-append-drop, take_at}
use Rattle.std.proofs.lemmas.List.Sums.{sum_by-cons}
use Rattle.account_store.specs.Opening.{opening_entries, opening_floor}
use Rattle.account_store.specs.declared.opening.OpeningStore.{OpeningStore}
use Rattle.spec_history.specs.History.{changes_of, count_of_kind, is_kind}
use Rattle.spec_history.specs.declared.entry.Change.{Change}
use Rattle.spec_history.specs.declared.entry.Entry.{Entry}
use Rattle.spec_history.specs.declared.entry.Kind.{Kind}
use Rattle.spec_history.specs.declared.entry.Kind.TheVariants.{Calendar, Event}
use Rattle.spec_snapshots.proofs.NumberedPast.{join_numbered, parts_numbered}
use Rattle.spec_sizes.specs.Sizes.{is_answered_from}
use Rattle.spec_snapshots.specs.Kept.{IsFloor, IsKeptFrom, floor_of}
use Rattle.spec_snapshots.specs.Numbered.{are_numbered, is_numbered}
use Rattle.spec_snapshots.specs.declared.kept.KeptHistory.{KeptHistory}
use Rattle.store_opening.specs.Puts.{in_front}

-- they are the first
pub front_is : (es past behind : List Entry) → es ≡ past ++ behind → in_front (length behind) es ≡ past
front_is es past behind whole =
    let long : length es - length behind ≡ length past = omega (arith, ap (λ (l : List Entry). length l) whole, length-append past behind) in
    ap (λ (l : List Entry). take (length es - length behind) l) whole ∙ ap (λ n. take n (past ++ behind)) long ∙ take_at past behind (length past) refl

one_of_each : (c : Change) → (if is_kind Calendar c.kind then 1 else 0) + (if is_kind Event c.kind then 1 else 0) ≡ 1
one_of_each c = by_kind c.kind
  where
    by_kind : (kind : Kind) → (if is_kind Calendar kind then 1 else 0) + (if is_kind Event kind then 1 else 0) ≡ 1
    by_kind Calendar = refl
    by_kind Event = refl

-- each is of one of the two kinds
pub both_kinds : (cs : List Change) → count_of_kind cs Calendar + count_of_kind cs Event ≡ length cs
both_kinds [] = refl
both_kinds (c ∷ cs) = omega (arith, sum_by-cons (λ (d : Change). if is_kind Calendar d.kind then 1 else 0) c cs, sum_by-cons (λ (d : Change). if is_kind Event d.kind then 1 else 0) c cs, one_of_each c, both_kinds cs)

-- ---- What is left of a list whose front was yielded.

module _ {X : Type 0} where
  -- the list is what was yielded, the next item and the rest
  pub behind : (all yielded : List X) (x : X) → map (λ y. y) yielded ≡ take (length yielded) all → (length yielded < length all) × (x ≡ get_or all (length yielded) x)
      → all ≡ yielded ++ x ∷ drop (suc (length yielded)) all
  behind all yielded x front at =
      sym (take-append-drop (length yielded) all)
      ∙ ap (λ (xs : List X). xs ++ drop (length yielded) all) (sym front ∙ map-id yielded)
      ∙ ap (λ (xs : List X). yielded ++ xs)
      (drop_more all (length yielded) x at.0 ∙ ap (λ (y : X). y ∷ drop (length yielded + 1) all) (sym at.1) ∙ ap (λ (n : ℕ). x ∷ drop n all) (add-one (length yielded)))

-- ---- Numbers.

changes_more : (es : List Entry) (e : Entry) → changes_of (es ++ e ∷ []) ≡ changes_of es ++ e.change ∷ []
changes_more es e = map-append (λ (x : Entry). x.change) es (e ∷ [])

pub numbered_more : (es : List Entry) (e : Entry) → are_numbered [] (changes_of es) ≡ true → is_numbered (changes_of es) e.change ≡ true → are_numbered [] (changes_of (es ++ e ∷ [])) ≡ true
numbered_more es e before here =
    ap (are_numbered []) (changes_more es e) ∙ join_numbered [] (changes_of es) (e.change ∷ []) before (ap (λ b. b && true) here)

-- one that doesn't follow makes all that goes on from it wrong
pub unnumbered_all : (es more : List Entry) (e : Entry) → is_numbered (changes_of es) e.change ≡ false → are_numbered [] (changes_of (es ++ e ∷ more)) ≡ false
unnumbered_all es more e here = by_test (are_numbered [] (changes_of (es ++ e ∷ more))) refl
  where
    by_test : (b : Bool) → are_numbered [] (changes_of (es ++ e ∷ more)) ≡ b → b ≡ false
    by_test false is = refl
    by_test true is =
        let parts = parts_numbered [] (changes_of es) (e.change ∷ changes_of more) (sym (ap (are_numbered []) (map-append (λ (x : Entry). x.change) es (e ∷ more))) ∙ is) in
        let none : (is_numbered (changes_of es) e.change && are_numbered (changes_of es ++ e.change ∷ []) (changes_of more)) ≡ false = and_left (is_numbered (changes_of es) e.change) _ here in
        absurd (false≢true (sym none ∙ parts.1))

-- ---- What is kept of a history.

module _ (es : List Entry) (k : KeptHistory) (h : IsKeptFrom es k) where
  abbrev front : List Entry
  front = in_front (length k.behind.items) es

  front_past : front ≡ h.past
  front_past = front_is es h.past k.behind.items h.whole

  pub front_count : k.calendars.state + k.events.state ≡ length front
  front_count =
      omega (arith, ap (λ (l : List Entry). length l) front_past, length-map h.past (λ (e : Entry). e.change), both_kinds (changes_of h.past), (h.floors Calendar).state, (h.floors Event).state)

  pub front_whole : front ++ k.behind.items ≡ es
  front_whole = ap (λ (l : List Entry). l ++ k.behind.items) front_past ∙ sym h.whole

  pub whole_count : length es ≡ k.calendars.state + k.events.state + length k.behind.items
  whole_count = omega (arith, ap (λ (l : List Entry). length l) front_whole, length-append front k.behind.items, front_count)

  pub front_floor : (kind : Kind) → IsFloor (changes_of front) kind (floor_of k kind)
  front_floor kind = subst (λ (l : List Entry). IsFloor (changes_of l) kind (floor_of k kind)) (sym front_past) (h.floors kind)

  pub front_numbered : are_numbered [] (changes_of front) ≡ true
  front_numbered = ap (λ (l : List Entry). are_numbered [] (changes_of l)) front_past ∙ h.numbered

  pub front_forgotten : (kind : Kind) → ((floor_of k kind).state ≡ 0) ⊎ (is_answered_from kind (changes_of (front ++ k.behind.items)) (floor_of k kind).state ≡ false)
  front_forgotten kind = subst (λ (l : List Entry). ((floor_of k kind).state ≡ 0) ⊎ (is_answered_from kind (changes_of l) (floor_of k kind).state ≡ false)) (sym front_whole) (h.forgotten kind)

  -- and so it is of a store that goes on from there
  pub forgotten_at : (o : OpeningStore) → opening_entries o ≡ front → opening_floor o Calendar ≡ k.calendars.state → opening_floor o Event ≡ k.events.state
      → (kind : Kind) → (opening_floor o kind ≡ 0) ⊎ (is_answered_from kind (changes_of (opening_entries o ++ k.behind.items)) (opening_floor o kind) ≡ false)
  forgotten_at o is calendars events kind =
      subst (λ n. (n ≡ 0) ⊎ (is_answered_from kind (changes_of (opening_entries o ++ k.behind.items)) n ≡ false)) (sym (at kind))
      (subst (λ (l : List Entry). ((floor_of k kind).state ≡ 0) ⊎ (is_answered_from kind (changes_of (l ++ k.behind.items)) (floor_of k kind).state ≡ false)) (sym is) (front_forgotten kind))
    where
      at : (kind : Kind) → opening_floor o kind ≡ (floor_of k kind).state
      at Calendar = calendars
      at Event = events
