-- The entries of an account have texts.
use Rattle.std.proofs.Common.{◌≡◌, ◌≤◌, ◌+◌, ◌++◌, ◌∷◌, ◌==◌, [], ℕ, zero, suc, List, Bool, true, false, Option, None, append-nil, append_assoc, drop, length, length-append, subst, take, refl, sym, ap, ◌∙◌, arith, inl, inr}
use Rattle.std.proofs.lemmas.Bool.{and_parts, eqb-true, false≢true, or_cases}
use Rattle.std.proofs.lemmas.List.{map-append, take-append-drop}
use Rattle.std.proofs.lemmas.List.Elements.{All-head, All-tail}
use Rattle.std.specs.Prelude.{All, is_some, if◌then◌else◌}
use Rattle.std.specs.List.{list_any}
use Rattle.account_core.specs.Trails.{AreSoundFrom}
use Rattle.cal_model.specs.Sound.{first_unsound, has_number, is_sound}
use Rattle.journal_keeper.specs.EntryText.{IsKeepable}
use Rattle.journal_keeper.specs.Journals.{AreKeepable}
use Rattle.object_outcomes.proofs.SoundLemmas.{some_place, sound_parts}
use Rattle.kept_account.proofs.SoundShape.{sound_is_flat}
use Rattle.kept_account.specs.Values.{IsEntryValue}
use Rattle.spec_history.specs.History.{changes_of, ids_from, is_kind, live_object, names, next_number, object_from, with_id}
use Rattle.spec_history.specs.MostTurns.{most_turns}
use Rattle.spec_history.specs.declared.entry.Change.{Change}
use Rattle.spec_history.specs.declared.entry.Entry.{Entry}
use Rattle.spec_history.specs.declared.entry.Kind.{Kind}
use Rattle.spec_json.specs.declared.tree.Tree.{Tree}
use Rattle.spec_site.specs.TimeZones.{ZoneText}
use Rattle.spec_snapshots.proofs.NumberedPast.{parts_numbered}
use Rattle.spec_snapshots.specs.Numbered.{are_numbered, is_numbered}

-- ---- the numbers of objects

one_id_more : (b : Bool) (ids : List ℕ) (id : ℕ) → length (if b then ids else ids ++ id ∷ []) ≤ length ids + 1
one_id_more true ids id = omega arith
one_id_more false ids id = let l = length-append ids (id ∷ []) in omega (arith, l)

ids_by : (b : Bool) (ids more : List ℕ) → length more ≤ length ids + 1 → length (if b then more else ids) ≤ length ids + 1
ids_by true ids more h = h
ids_by false ids more h = omega arith

few_ids : (ids : List ℕ) (cs : List Change) (kind : Kind) → length (ids_from ids cs kind) ≤ length ids + length cs
few_ids ids [] kind = omega arith
few_ids ids (c ∷ cs) kind =
    let rest = few_ids (if is_kind kind c.kind then with_id ids c.id else ids) cs kind in
    let one = ids_by (is_kind kind c.kind) ids (with_id ids c.id) (one_id_more (list_any (λ n. n == c.id) ids) ids c.id) in
    omega (arith, rest, one)

object_behind : (cs : List Change) (c : Change) (before : Option Tree) (kind : Kind) (n : ℕ) → object_from before (cs ++ c ∷ []) kind n ≡ (if names kind n c then c.object else object_from before cs kind n)
object_behind [] c before kind n = refl
object_behind (d ∷ cs) c before kind n = object_behind cs c (if names kind n d then d.object else before) kind n

-- the numbers of what is live are no greater than the number of changes
abbrev pub AreNumbered : List Change → Type 0
AreNumbered cs = (kind : Kind) (n : ℕ) → is_some (live_object cs kind n) ≡ true → n ≤ length cs

number_within : (zones : List ZoneText) (cs : List Change) (kind : Kind) (n : ℕ) → AreNumbered cs → has_number zones cs kind n ≡ true → n ≤ length cs + 1
number_within zones cs kind n numbered h = elim (or_cases (is_some (live_object cs kind n)) (n == next_number cs kind) h) [
  | inl live ↦ (let within = numbered kind n live in omega (arith, within))
  | inr next ↦ (let is = eqb-true n (next_number cs kind) next in let few = few_ids [] cs kind in omega (arith, is, few))
]

numbered_by : (kind : Kind) (n : ℕ) (cs : List Change) (c : Change) (b : Bool) → names kind n c ≡ b → AreNumbered cs → c.id ≤ length cs + 1 → is_some (if b then c.object else live_object cs kind n) ≡ true → n ≤ length cs + 1
numbered_by kind n cs c true e numbered within live = let is = eqb-true n c.id (and_parts (is_kind kind c.kind) (n == c.id) e).1 in omega (arith, is, within)
numbered_by kind n cs c false e numbered within live = let old = numbered kind n live in omega (arith, old)

numbered_more : (cs : List Change) (c : Change) → AreNumbered cs → c.id ≤ length cs + 1 → AreNumbered (cs ++ c ∷ [])
numbered_more cs c numbered within kind n live =
    let count = length-append cs (c ∷ []) in
    let old = numbered_by kind n cs c (names kind n c) refl numbered within (ap is_some (sym (object_behind cs c None kind n)) ∙ live) in
    omega (arith, count, old)

none_numbered : AreNumbered []
none_numbered kind n live = absurd (false≢true live)

-- changes that give the numbers in order
numbers_from : (before cs : List Change) → AreNumbered before → are_numbered before cs ≡ true → AreNumbered (before ++ cs)
numbers_from before [] numbered h = subst AreNumbered (sym (append-nil before)) numbered
numbers_from before (c ∷ cs) numbered h =
    let parts = and_parts (is_numbered before c) (are_numbered (before ++ c ∷ []) cs) h in
    let within : c.id ≤ length before + 1 = elim (or_cases (c.id == next_number before c.kind) (is_some (live_object before c.kind c.id)) parts.0) [
      | inl next ↦ (let is = eqb-true c.id (next_number before c.kind) next in let few = few_ids [] before c.kind in omega (arith, is, few))
      | inr live ↦ (let old = numbered c.kind c.id live in omega (arith, old))
    ] in
    subst AreNumbered (append_assoc before (c ∷ []) cs) (numbers_from (before ++ c ∷ []) cs (numbered_more before c numbered within) parts.1)

pub live_numbers : (cs : List Change) → are_numbered [] cs ≡ true → AreNumbered cs
live_numbers cs h = numbers_from [] cs none_numbered h

-- ---- entries

module _ (zones : List ZoneText) where
  next_numbered : (before : List Change) (e : Entry) → AreNumbered before → is_sound zones before e.change ≡ true → e.change.id ≤ length before + 1
  next_numbered before e numbered sound = number_within zones before e.change.kind e.change.id numbered (sound_parts zones before e.change sound).0.0

  keepable : (before : List Change) (e : Entry) → AreNumbered before → is_sound zones before e.change ≡ true → IsEntryValue e → e.turn ≤ most_turns → IsKeepable e
  keepable before e numbered sound has turn =
      let flat = sound_is_flat zones before e.change sound has.fit in
      let number = next_numbered before e numbered sound in
      record {
        author = has.author;
        id = omega (arith, number, flat.2);
        part = has.part;
        moment = has.moment;
        turn = turn;
        object = flat.1.0;
        shallow = let deep = flat.1.1 in omega (arith, deep);
      }

  -- entries that are sound behind these changes
  pub keepable_all : (before : List Change) (h : List Entry) → AreNumbered before → first_unsound zones before (changes_of h) ≡ None → All IsEntryValue h → All (λ (e : Entry). e.turn ≤ most_turns) h → AreKeepable h
  keepable_all before [] numbered sound have turns = tt
  keepable_all before (e ∷ es) numbered sound have turns =
      let first = some_place zones before (changes_of es) e.change (is_sound zones before e.change) refl sound in (
        keepable before e numbered first.0 (All-head IsEntryValue e es have) (All-head (λ (f : Entry). f.turn ≤ most_turns) e es turns),
        keepable_all (before ++ e.change ∷ []) es (numbered_more before e.change numbered (next_numbered before e numbered first.0)) first.1
            (All-tail IsEntryValue e es have) (All-tail (λ (f : Entry). f.turn ≤ most_turns) e es turns),
      )

  -- the entries of an account behind the first so many, which are sound behind these
  pub keepable_behind : (h : List Entry) (place : ℕ) → are_numbered [] (changes_of h) ≡ true → AreSoundFrom zones place h → All IsEntryValue (drop place h) → All (λ (e : Entry). e.turn ≤ most_turns) (drop place h)
      → AreKeepable (drop place h)
  keepable_behind h place numbered sound =
      let split : changes_of h ≡ changes_of (take place h) ++ changes_of (drop place h) = ap changes_of (sym (take-append-drop place h)) ∙ map-append (λ (e : Entry). e.change) (take place h) (drop place h) in
      keepable_all (changes_of (take place h)) (drop place h)
      (live_numbers (changes_of (take place h)) (parts_numbered [] (changes_of (take place h)) (changes_of (drop place h)) (sym (ap (are_numbered []) split) ∙ numbered)).0) sound
