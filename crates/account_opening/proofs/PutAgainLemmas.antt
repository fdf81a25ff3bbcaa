-- The live objects of a history, put again.
use Rattle.std.proofs.Common.{take, option_and_then, ◌≡◌, ◌∙◌, ◌≤◌, ◌<◌, ◌+◌, ◌==◌, ◌&&◌, ◌||◌, ◌++◌, append-nil, cond, ℕ, zero, suc, List, [], ◌∷◌, Bool, true, false, Option, Some, None, append_assoc, filter, is_some, arith, refl, sym, ap, subst, if◌then◌else◌}
use Rattle.std.proofs.lemmas.Bool.{false≢true}
use Rattle.std.proofs.lemmas.Bool.Decides.{nat_tests}
use Rattle.std.proofs.lemmas.List.Folds.{list_any-append}
use Rattle.std.proofs.lemmas.List.{take_more}
use Rattle.std.proofs.lemmas.List.Concat.{flat_map-append}
use Rattle.std.proofs.lemmas.Option.{get_or_from_slice_get, slice_get_within}
use Rattle.std.specs.List.{range_with_len, slice_get}
use Rattle.account_opening.specs.Again.{again_at, put_again, put_of, puts_of}
use Rattle.account_rooms.proofs.Changes.{with_new}
use Rattle.account_rooms.proofs.RoomsAgain.{weaker}
use Rattle.account_rooms.specs.PutAgain.{ArePutAgain}
use Rattle.account_store.specs.Earlier.{live_ids}
use Rattle.spec_bookings.proofs.Numbered.{in_filter, numbered_if_live, resource_is_live}
use Rattle.spec_bookings.proofs.Tables.{same_number}
use Rattle.spec_bookings.specs.Resources.{is_resource, resources_at, zone_of_resource}
use Rattle.spec_history.specs.History.{ids_at, ids_from, is_kind, live_object, names, object_from, with_id}
use Rattle.spec_history.specs.Pages.{is_in}
use Rattle.spec_history.specs.declared.entry.Change.{Change}
use Rattle.spec_history.specs.declared.entry.Kind.{Kind}
use Rattle.spec_history.specs.declared.entry.Kind.TheVariants.{Calendar, Event}
use Rattle.spec_json.proofs.Booleans.{eqb_sym}
use Rattle.spec_json.specs.declared.tree.Tree.{Tree}

-- ---- Numbers that rise.

abbrev Rise : ℕ → List ℕ → Type 0
Rise b [] = Unit {0}
Rise b (n ∷ ns) = (b ≤ n) × Rise (suc n) ns

rise_from : (a b : ℕ) (ns : List ℕ) → a ≤ b → Rise b ns → Rise a ns
rise_from a b [] h r = tt
rise_from a b (n ∷ ns) h r = (omega (arith, h, r.0), r.1)

range_rises : (p : ℕ → Bool) (b k : ℕ) → Rise b (filter p (range_with_len b k))
range_rises p b zero = tt
range_rises p b (suc k) = by_test (p b) (range_rises p (b + 1) k)
  where
    by_test : (t : Bool) → Rise (b + 1) (filter p (range_with_len (b + 1) k)) → Rise b (cond t (b ∷ filter p (range_with_len (b + 1) k)) (filter p (range_with_len (b + 1) k)))
    by_test true r = (omega arith, rise_from (suc b) (b + 1) (filter p (range_with_len (b + 1) k)) (omega arith) r)
    by_test false r = rise_from b (b + 1) (filter p (range_with_len (b + 1) k)) (omega arith) r

other_number : (n m : ℕ) → m < n → (n == m) ≡ false
other_number n m h = grind (arith, nat_tests)

-- a lower one isn't there
not_there : (b m : ℕ) (ns : List ℕ) → m < b → Rise b ns → is_in ns m ≡ false
not_there b m [] h r = refl
not_there b m (n ∷ ns) h r = rw (other_number n m (omega (arith, h, r.0))) (not_there (suc n) m ns (omega (arith, h, r.0)) r.1)

-- ---- What is put of one kind.

own : (kind : Kind) → is_kind kind kind ≡ true
own Calendar = refl
own Event = refl

module _ (cs : List Change) (kind : Kind) where
  abbrev AreLive : List ℕ → Type 0
  AreLive [] = Unit {0}
  AreLive (n ∷ ns) = (is_some (live_object cs kind n) ≡ true) × AreLive ns

  filter_live : (ns : List ℕ) → AreLive (filter (λ n. is_some (live_object cs kind n)) ns)
  filter_live [] = tt
  filter_live (n ∷ ns) = by_test (is_some (live_object cs kind n)) refl (filter_live ns)
    where
      by_test : (t : Bool) → is_some (live_object cs kind n) ≡ t → AreLive (filter (λ m. is_some (live_object cs kind m)) ns)
          → AreLive (cond t (n ∷ filter (λ m. is_some (live_object cs kind m)) ns) (filter (λ m. is_some (live_object cs kind m)) ns))
      by_test true is r = (is, r)
      by_test false is r = r

  -- the numbers that are given again are these
  numbers_again : (ns acc : List ℕ) (b : ℕ) → AreLive ns → Rise b ns → ((m : ℕ) → b ≤ m → is_in acc m ≡ false) → ids_from acc (puts_of cs kind ns) kind ≡ acc ++ ns
  numbers_again [] acc b live r above = sym (append-nil acc)
  numbers_again (n ∷ ns) acc b live r above = by_object (live_object cs kind n) live.0 (numbers_again ns (acc ++ n ∷ []) (suc n) live.1 r.1 joined)
    where
      joined : (m : ℕ) → suc n ≤ m → is_in (acc ++ n ∷ []) m ≡ false
      joined m h = list_any-append (λ k. k == m) acc (n ∷ []) ∙ rw (above m (omega (arith, h, r.0)), other_number' n m h) refl
        where
          other_number' : (n m : ℕ) → suc n ≤ m → (n == m) ≡ false
          other_number' n m h = grind (arith, nat_tests)

      by_object : (o : Option Tree) → is_some o ≡ true → ids_from (acc ++ n ∷ []) (puts_of cs kind ns) kind ≡ (acc ++ n ∷ []) ++ ns → ids_from acc (put_of kind n o ++ puts_of cs kind ns) kind ≡ acc ++ n ∷ ns
      by_object None h rest = absurd (false≢true h)
      by_object (Some t) h rest =
          ap (λ t'. ids_from (if t' then with_id acc n else acc) (puts_of cs kind ns) kind) (own kind)
          ∙ ap (λ ids. ids_from ids (puts_of cs kind ns) kind) (with_new acc n (above n r.0))
          ∙ rest ∙ append_assoc acc (n ∷ []) ns

  -- and what is live is what was
  objects_again : (ns : List ℕ) (id : ℕ) (before : Option Tree) → AreLive ns → object_from before (puts_of cs kind ns) kind id ≡ (if is_in ns id then live_object cs kind id else before)
  objects_again [] id before live = refl
  objects_again (n ∷ ns) id before live = by_object (live_object cs kind n) refl live.0 (λ b. objects_again ns id b live.1)
    where
      turned : (n == id) ≡ (id == n)
      turned = eqb_sym n id

      chosen : (t : Tree) → live_object cs kind n ≡ Some t → (same there : Bool) → (n == id) ≡ same → (if there then live_object cs kind id else (if same then Some t else before)) ≡ (if same || there then live_object cs kind id else before)
      chosen t is true true e = refl
      chosen t is true false e = sym (ap (live_object cs kind) (sym (same_number n id e)) ∙ is)
      chosen t is false there e = refl

      by_object : (o : Option Tree) → live_object cs kind n ≡ o → is_some o ≡ true → ((b : Option Tree) → object_from b (puts_of cs kind ns) kind id ≡ (if is_in ns id then live_object cs kind id else b))
          → object_from before (put_of kind n o ++ puts_of cs kind ns) kind id ≡ (if (n == id) || is_in ns id then live_object cs kind id else before)
      by_object None is h rest = absurd (false≢true h)
      by_object (Some t) is h rest =
          ap (λ b. object_from (if b && (id == n) then Some t else before) (puts_of cs kind ns) kind id) (own kind)
          ∙ ap (λ b. object_from (if b then Some t else before) (puts_of cs kind ns) kind id) (sym turned)
          ∙ rest (if n == id then Some t else before) ∙ chosen t is (n == id) (is_in ns id) refl

  live_among : (id : ℕ) → (if is_in (live_ids cs kind) id then live_object cs kind id else None) ≡ live_object cs kind id
  live_among id = by_object (live_object cs kind id) refl
    where
      by_object : (o : Option Tree) → live_object cs kind id ≡ o → (if is_in (live_ids cs kind) id then o else None) ≡ o
      by_object None is = either (is_in (live_ids cs kind) id) None
        where
          either : (b : Bool) (o : Option Tree) → (if b then o else o) ≡ o
          either true o = refl
          either false o = refl
      by_object (Some t) is =
          ap (λ b. if b then Some t else None)
          (in_filter (λ n. is_some (live_object cs kind n)) (ids_at cs kind) id (ap is_some is) (numbered_if_live cs kind id None [] (λ e. absurd (false≢true e)) (ap is_some is)))

-- ---- Changes of the other kind say nothing.

module _ (cs : List Change) (kind q : Kind) (apart : is_kind kind q ≡ false) where
  others_numbers : (ns ids : List ℕ) → ids_from ids (puts_of cs q ns) kind ≡ ids
  others_numbers [] ids = refl
  others_numbers (n ∷ ns) ids = by_object (live_object cs q n) (others_numbers ns ids)
    where
      by_object : (o : Option Tree) → ids_from ids (puts_of cs q ns) kind ≡ ids → ids_from ids (put_of q n o ++ puts_of cs q ns) kind ≡ ids
      by_object None rest = rest
      by_object (Some t) rest = ap (λ b. ids_from (if b then with_id ids n else ids) (puts_of cs q ns) kind) apart ∙ rest

  others_objects : (ns : List ℕ) (id : ℕ) (before : Option Tree) → object_from before (puts_of cs q ns) kind id ≡ before
  others_objects [] id before = refl
  others_objects (n ∷ ns) id before = by_object (live_object cs q n) (others_objects ns id before)
    where
      by_object : (o : Option Tree) → object_from before (puts_of cs q ns) kind id ≡ before → object_from before (put_of q n o ++ puts_of cs q ns) kind id ≡ before
      by_object None rest = rest
      by_object (Some t) rest = ap (λ b. object_from (if b && (id == n) then Some t else before) (puts_of cs q ns) kind id) apart ∙ rest

-- ---- Both kinds.

ids_join : (kind : Kind) (cs ds : List Change) (ids : List ℕ) → ids_from ids (cs ++ ds) kind ≡ ids_from (ids_from ids cs kind) ds kind
ids_join kind [] ds ids = refl
ids_join kind (c ∷ cs) ds ids = ids_join kind cs ds (if is_kind kind c.kind then with_id ids c.id else ids)

objects_join : (kind : Kind) (id : ℕ) (cs ds : List Change) (before : Option Tree) → object_from before (cs ++ ds) kind id ≡ object_from (object_from before cs kind id) ds kind id
objects_join kind id [] ds before = refl
objects_join kind id (c ∷ cs) ds before = objects_join kind id cs ds (if names kind id c then c.object else before)

-- what is live of a kind, of so many that are put again
module _ (cs : List Change) (kind : Kind) where
  taken_live : (k : ℕ) (ns : List ℕ) → AreLive cs kind ns → AreLive cs kind (take k ns)
  taken_live zero ns live = tt
  taken_live (suc k) [] live = tt
  taken_live (suc k) (n ∷ ns) live = (live.0, taken_live k ns live.1)

  all_live : AreLive cs kind (live_ids cs kind)
  all_live = filter_live cs kind (ids_at cs kind)

  own_objects : (id : ℕ) → object_from None (puts_of cs kind (live_ids cs kind)) kind id ≡ live_object cs kind id
  own_objects id = objects_again cs kind (live_ids cs kind) id None all_live ∙ live_among cs kind id

  live_at : (ns : List ℕ) (k n : ℕ) → AreLive cs kind ns → slice_get ns k ≡ Some n → is_some (live_object cs kind n) ≡ true
  live_at [] k n live e = absurd (cc e)
  live_at (m ∷ ns) zero n live e = subst (λ (i : ℕ). is_some (live_object cs kind i) ≡ true) (cc e) live.0
  live_at (m ∷ ns) (suc k) n live e = live_at ns k n live.1 e

  -- a number among those of what is live has an object
  pub live_there : (k n : ℕ) → slice_get (live_ids cs kind) k ≡ Some n → is_some (live_object cs kind n) ≡ true
  live_there k n e = live_at (live_ids cs kind) k n all_live e

  -- one more of them
  pub puts_more : (k n : ℕ) (t : Tree) → slice_get (live_ids cs kind) k ≡ Some n → live_object cs kind n ≡ Some t
      → puts_of cs kind (take (k + 1) (live_ids cs kind)) ≡ puts_of cs kind (take k (live_ids cs kind)) ++ (record { kind = kind; id = n; object = Some t }) ∷ []
  puts_more k n t e live =
      let ns = live_ids cs kind in
      ap (puts_of cs kind) (take_more ns k 0 (slice_get_within ns k n e) ∙ ap (λ m. take k ns ++ m ∷ []) (get_or_from_slice_get ns k n 0 e))
      ∙ flat_map-append (λ m. put_of kind m (live_object cs kind m)) (take k ns) (n ∷ []) ∙ ap (λ l. puts_of cs kind (take k ns) ++ l) (append-nil (put_of kind n (live_object cs kind n)) ∙ ap (put_of kind n) live)

-- all calendars, and the events that there are so far
module _ (cs : List Change) (k : ℕ) where
  pub calendars_are : (id : ℕ) → live_object (again_at cs k) Calendar id ≡ live_object cs Calendar id
  calendars_are id =
      objects_join Calendar id (puts_of cs Calendar (live_ids cs Calendar)) (puts_of cs Event (take k (live_ids cs Event))) None
      ∙ others_objects cs Calendar Event refl (take k (live_ids cs Event)) id (object_from None (puts_of cs Calendar (live_ids cs Calendar)) Calendar id) ∙ own_objects cs Calendar id

  pub events_are : (id : ℕ) → live_object (again_at cs k) Event id ≡ (if is_in (take k (live_ids cs Event)) id then live_object cs Event id else None)
  events_are id =
      objects_join Event id (puts_of cs Calendar (live_ids cs Calendar)) (puts_of cs Event (take k (live_ids cs Event))) None
      ∙ ap (λ o. object_from o (puts_of cs Event (take k (live_ids cs Event))) Event id) (others_objects cs Event Calendar refl (live_ids cs Calendar) id None)
      ∙ objects_again cs Event (take k (live_ids cs Event)) id None (taken_live cs Event k (live_ids cs Event) (all_live cs Event))

  pub event_more : (id : ℕ) (t : Tree) → slice_get (live_ids cs Event) k ≡ Some id → live_object cs Event id ≡ Some t
      → again_at cs (k + 1) ≡ again_at cs k ++ (record { kind = Event; id = id; object = Some t }) ∷ []
  event_more id t e live =
      ap (λ l. puts_of cs Calendar (live_ids cs Calendar) ++ l) (puts_more cs Event k id t e live)
      ∙ sym (append_assoc (puts_of cs Calendar (live_ids cs Calendar)) (puts_of cs Event (take k (live_ids cs Event))) ((record { kind = Event; id = id; object = Some t }) ∷ []))

-- ---- The numbers of a history rise.

-- what stands at a place is no less than the first, and not in front of it
at_least : (b k n : ℕ) (ns : List ℕ) → Rise b ns → slice_get ns k ≡ Some n → b ≤ n
at_least b k n [] r e = absurd (cc e)
at_least b zero n (m ∷ ns) r e = let is : m ≡ n = cc e in omega (arith, is, r.0)
at_least b (suc k) n (m ∷ ns) r e = let rest = at_least (suc m) k n ns r.1 e in omega (arith, rest, r.0)

not_in_front : (b k n : ℕ) (ns : List ℕ) → Rise b ns → slice_get ns k ≡ Some n → is_in (take k ns) n ≡ false
not_in_front b k n [] r e = absurd (cc e)
not_in_front b zero n (m ∷ ns) r e = refl
not_in_front b (suc k) n (m ∷ ns) r e = rw (lower m n (at_least (suc m) k n ns r.1 e)) (not_in_front (suc m) k n ns r.1 e)
  where
    lower : (m n : ℕ) → suc m ≤ n → (m == n) ≡ false
    lower m n h = grind (arith, nat_tests)

rise_taken : (b k : ℕ) (ns : List ℕ) → Rise b ns → Rise b (take k ns)
rise_taken b zero ns r = tt
rise_taken b (suc k) [] r = tt
rise_taken b (suc k) (n ∷ ns) r = (r.0, rise_taken (suc n) k ns r.1)

module _ (cs : List Change) (count : Kind → ℕ) (numbers : (kind : Kind) → ids_at cs kind ≡ range_with_len 1 (count kind)) where
  rising : (kind : Kind) → Rise 1 (live_ids cs kind)
  rising kind = subst (λ (ns : List ℕ). Rise 1 (filter (λ n. is_some (live_object cs kind n)) ns)) (sym (numbers kind)) (range_rises (λ n. is_some (live_object cs kind n)) 1 (count kind))

  own_numbers : (kind : Kind) → ids_from [] (puts_of cs kind (live_ids cs kind)) kind ≡ live_ids cs kind
  own_numbers kind = numbers_again cs kind (live_ids cs kind) [] 1 (all_live cs kind) (rising kind) (λ m h. refl)

  numbers_are : (kind : Kind) → ids_at (put_again cs) kind ≡ live_ids cs kind
  numbers_are Calendar = ids_join Calendar (puts_of cs Calendar (live_ids cs Calendar)) (puts_of cs Event (live_ids cs Event)) [] ∙ others_numbers cs Calendar Event refl (live_ids cs Event) _ ∙ own_numbers Calendar
  numbers_are Event =
      ids_join Event (puts_of cs Calendar (live_ids cs Calendar)) (puts_of cs Event (live_ids cs Event)) []
      ∙ ap (λ ids. ids_from ids (puts_of cs Event (live_ids cs Event)) Event) (others_numbers cs Event Calendar refl (live_ids cs Calendar) []) ∙ own_numbers Event

  objects_are : (kind : Kind) (id : ℕ) → live_object (put_again cs) kind id ≡ live_object cs kind id
  objects_are Calendar id = objects_join Calendar id (puts_of cs Calendar (live_ids cs Calendar)) (puts_of cs Event (live_ids cs Event)) None ∙ others_objects cs Calendar Event refl (live_ids cs Event) id _ ∙ own_objects cs Calendar id
  objects_are Event id =
      objects_join Event id (puts_of cs Calendar (live_ids cs Calendar)) (puts_of cs Event (live_ids cs Event)) None
      ∙ ap (λ o. object_from o (puts_of cs Event (live_ids cs Event)) Event id) (others_objects cs Event Calendar refl (live_ids cs Calendar) id None) ∙ own_objects cs Event id

  pub are_put_again : ArePutAgain (put_again cs) cs
  are_put_again = record { objects = objects_are; numbers = numbers_are }

  -- a number isn't among those in front of it, nor among those that were put before it
  pub new_there : (kind : Kind) (k n : ℕ) → slice_get (live_ids cs kind) k ≡ Some n → is_in (take k (live_ids cs kind)) n ≡ false
  new_there kind k n e = not_in_front 1 k n (live_ids cs kind) (rising kind) e

  pub new_put : (kind : Kind) (k n : ℕ) → slice_get (live_ids cs kind) k ≡ Some n → is_in (ids_at (puts_of cs kind (take k (live_ids cs kind))) kind) n ≡ false
  new_put kind k n e =
      let ns = live_ids cs kind in
      ap (λ ids. is_in ids n) (numbers_again cs kind (take k ns) [] 1 (taken_live cs kind k ns (all_live cs kind)) (rise_taken 1 k ns (rising kind)) (λ m h. refl)) ∙ new_there kind k n e

  -- the resources are those of the history, whichever events there are
  pub resources_are : (k : ℕ) → resources_at (again_at cs k) ≡ resources_at cs
  resources_are k =
      (λ i. filter (λ n. is_some (option_and_then zone_of_resource (calendars_are cs k n i))) (ids_at (again_at cs k) Calendar))
      ∙ ap (filter (is_resource cs)) calendar_numbers ∙ weaker (is_resource cs) (λ n. is_some (live_object cs Calendar n)) (λ n h. resource_is_live cs n h) (ids_at cs Calendar)
    where
      calendar_numbers : ids_at (again_at cs k) Calendar ≡ live_ids cs Calendar
      calendar_numbers =
          ids_join Calendar (puts_of cs Calendar (live_ids cs Calendar)) (puts_of cs Event (take k (live_ids cs Event))) []
          ∙ others_numbers cs Calendar Event refl (take k (live_ids cs Event)) (ids_from [] (puts_of cs Calendar (live_ids cs Calendar)) Calendar) ∙ own_numbers Calendar
