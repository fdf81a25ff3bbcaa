-- A history that leaves floors of both kinds.
use Rattle.std.proofs.Common.{◌≡◌, ◌∙◌, ◌+◌, ◌==◌, ◌&&◌, ℕ, List, [], ◌∷◌, ◌++◌, true, false, Option, None, map, arith, refl, sym, ap, subst, if◌then◌else◌, pos}
use Rattle.std.proofs.lemmas.List.Sums.{sum_by-append, sum_by-cons}
use Rattle.spec_history.specs.History.{changes_of, count_of_kind, ids_at, ids_from, is_kind, live_object, names, object_from, with_id}
use Rattle.spec_history.specs.Signed.{written_by}
use Rattle.spec_history.specs.declared.entry.Change.{Change}
use Rattle.spec_history.specs.declared.entry.Entry.{Entry}
use Rattle.spec_history.specs.declared.entry.Kind.{Kind}
use Rattle.spec_history.specs.declared.entry.Kind.TheVariants.{Calendar, Event}
use Rattle.spec_json.specs.declared.tree.Tree.{Tree}
use Rattle.spec_snapshots.proofs.MadeUp.{AreOfKind, floor_past, one_if, past_leaves, past_of_kind}
use Rattle.spec_snapshots.proofs.NumberedPast.{floor_numbered, join_numbered}
use Rattle.spec_snapshots.specs.Kept.{IsFloor, floor_of, is_floor}
use Rattle.spec_snapshots.specs.Numbered.{are_numbered}
use Rattle.spec_snapshots.specs.declared.kept.KeptHistory.{KeptHistory}
use Rattle.spec_snapshots.specs.declared.kept.KindFloor.{KindFloor}

-- ---- Changes of both kinds.

module _ (kind q : Kind) (apart : is_kind kind q ≡ false) where
  -- those of the other kind say nothing
  other_objects : (cs : List Change) (id : ℕ) (before : Option Tree) → AreOfKind q cs → object_from before cs kind id ≡ before
  other_objects [] id before of = refl
  other_objects (c ∷ cs) id before of = ap (λ b. object_from (if b && (id == c.id) then c.object else before) cs kind id) (ap (is_kind kind) of.0 ∙ apart) ∙ other_objects cs id before of.1

  pub other_numbers : (cs : List Change) (ids : List ℕ) → AreOfKind q cs → ids_from ids cs kind ≡ ids
  other_numbers [] ids of = refl
  other_numbers (c ∷ cs) ids of = ap (λ b. ids_from (if b then with_id ids c.id else ids) cs kind) (ap (is_kind kind) of.0 ∙ apart) ∙ other_numbers cs ids of.1

  none_counted : (cs : List Change) → AreOfKind q cs → count_of_kind cs kind ≡ 0
  none_counted [] of = refl
  none_counted (c ∷ cs) of =
      let here : one_if (is_kind kind c.kind) ≡ 0 = ap one_if (ap (is_kind kind) of.0 ∙ apart) in
      omega (arith, sum_by-cons (λ (d : Change). one_if (is_kind kind d.kind)) c cs, here, none_counted cs of.1)

  objects_behind : (cs ds : List Change) (id : ℕ) (before : Option Tree) → object_from before (cs ++ ds) kind id ≡ object_from (object_from before cs kind id) ds kind id
  objects_behind [] ds id before = refl
  objects_behind (c ∷ cs) ds id before = objects_behind cs ds id (if names kind id c then c.object else before)

  numbers_behind : (cs ds : List Change) (ids : List ℕ) → ids_from ids (cs ++ ds) kind ≡ ids_from (ids_from ids cs kind) ds kind
  numbers_behind [] ds ids = refl
  numbers_behind (c ∷ cs) ds ids = numbers_behind cs ds (if is_kind kind c.kind then with_id ids c.id else ids)

  counts_behind : (cs ds : List Change) → count_of_kind (cs ++ ds) kind ≡ count_of_kind cs kind + count_of_kind ds kind
  counts_behind cs ds = sum_by-append (λ (d : Change). one_if (is_kind kind d.kind)) cs ds

  -- a floor of one kind, with changes of the other behind it, or in front of it
  pub floor_behind : (f : KindFloor) (cs ds : List Change) → IsFloor cs kind f → AreOfKind q ds → IsFloor (cs ++ ds) kind f
  floor_behind f cs ds h of = record {
    state = h.state ∙ omega (arith, counts_behind cs ds, none_counted ds of);
    numbers = numbers_behind cs ds [] ∙ other_numbers ds (ids_at cs kind) of ∙ h.numbers;
    rising = h.rising;
    live = λ id. h.live id ∙ sym (objects_behind cs ds id None ∙ other_objects ds id (live_object cs kind id) of);
  }

  pub floor_in_front : (f : KindFloor) (cs ds : List Change) → IsFloor ds kind f → AreOfKind q cs → IsFloor (cs ++ ds) kind f
  floor_in_front f cs ds h of = record {
    state = h.state ∙ omega (arith, counts_behind cs ds, none_counted cs of);
    numbers = numbers_behind cs ds [] ∙ ap (λ ids. ids_from ids ds kind) (other_numbers cs [] of) ∙ h.numbers;
    rising = h.rising;
    live = λ id. h.live id ∙ sym (objects_behind cs ds id None ∙ ap (λ o. object_from o ds kind id) (other_objects cs id None of));
  }

-- ---- A history that leaves what is kept.

-- an entry of nobody in particular
abbrev of_nobody : Change → Entry
of_nobody c = record { author = 0; turn = 0; part = 0; moment = pos 0; change = c }

changes_back : (cs : List Change) → changes_of (map of_nobody cs) ≡ cs
changes_back [] = refl
changes_back (c ∷ cs) = ap (λ ds. c ∷ ds) (changes_back cs)

own_entries : (cs : List Change) → written_by 0 (map of_nobody cs) ≡ map of_nobody cs
own_entries [] = refl
own_entries (c ∷ cs) = ap (λ es. of_nobody c ∷ es) (own_entries cs)

-- the changes of each kind, one kind behind the other
abbrev pub both_past : KeptHistory → List Change
both_past k = floor_past Calendar k.calendars ++ floor_past Event k.events

abbrev pub entries_past : KeptHistory → List Entry
entries_past k = map of_nobody (both_past k)

pub past_own : (k : KeptHistory) → written_by 0 (entries_past k) ≡ entries_past k
past_own k = own_entries (both_past k)

pub past_numbered : (k : KeptHistory) → are_numbered [] (changes_of (entries_past k)) ≡ true
past_numbered k = ap (are_numbered []) (changes_back (both_past k)) ∙ join_numbered [] (floor_past Calendar k.calendars) (floor_past Event k.events)
    (floor_numbered Calendar k.calendars [] refl)
    (floor_numbered Event k.events (floor_past Calendar k.calendars) (other_numbers Event Calendar refl (floor_past Calendar k.calendars) [] (past_of_kind Calendar k.calendars)))

module _ (k : KeptHistory) (calendars : is_floor k.calendars ≡ true) (events : is_floor k.events ≡ true) where
  pub floors_left : (kind : Kind) → IsFloor (changes_of (entries_past k)) kind (floor_of k kind)
  floors_left Calendar = subst (λ (cs : List Change). IsFloor cs Calendar k.calendars) (sym (changes_back (both_past k)))
      (floor_behind Calendar Event refl k.calendars (floor_past Calendar k.calendars) (floor_past Event k.events) (past_leaves Calendar k.calendars calendars) (past_of_kind Event k.events))
  floors_left Event = subst (λ (cs : List Change). IsFloor cs Event k.events) (sym (changes_back (both_past k)))
      (floor_in_front Event Calendar refl k.events (floor_past Calendar k.calendars) (floor_past Event k.events) (past_leaves Event k.events events) (past_of_kind Calendar k.calendars))
