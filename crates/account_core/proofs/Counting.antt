-- The tally of one change more.
use Rattle.std.proofs.lemmas.Bool.{false≢true, ltb-false, ltb-true, not-false, or_parts}
use Rattle.std.proofs.lemmas.Bool.Decides.{nat_tests}
use Rattle.std.specs.Prelude.{◌-◌, ◌&&◌, ◌||◌, if◌then◌else◌, nat_le, nat_lt, not}
use Rattle.std.proofs.Common.{◌≡◌, ◌≤◌, ◌<◌, ◌+◌, ◌⊎◌, inl, inr, max, ℕ, List, [], ◌∷◌, ◌++◌, Bool, true, false, cond, Option, Some, None, is_some, length, length-append, arith, refl, sym, ap, ◌∙◌, subst}
use Rattle.std.proofs.lemmas.List.FromFn.{length-range_with_len}
use Rattle.std.specs.List.{range_with_len}
use Rattle.account_core.proofs.Numbers.{in_range, next_is, numbers_counted}
use Rattle.account_core.proofs.Loads.{held, held_within, load_more, ones}
use Rattle.account_rooms.proofs.Changes.{ids_from-push}
use Rattle.account_core.specs.Tally.{Tallies, count_created}
use Rattle.account_core.specs.declared.tally.Tally.{Tally}
use Rattle.cal_model.specs.Quota.{exceeds_quota, live_objects, live_size, size_of_object}
use Rattle.cal_model.specs.declared.limits.TheConstants.{MAX_CHANGES, MAX_OBJECT_BYTES, MAX_OBJECTS}
use Rattle.spec_history.specs.History.{ids_at, is_kind, live_object, next_number}
use Rattle.spec_history.specs.Pages.{is_in}
use Rattle.spec_history.specs.declared.entry.Change.{Change}
use Rattle.spec_history.specs.declared.entry.Kind.{Kind}
use Rattle.spec_history.specs.declared.entry.Kind.TheVariants.{Calendar, Event}
use Rattle.spec_bookings.proofs.Numbered.{numbered_if_live}
use Rattle.spec_json.specs.Json.{text_of}
use Rattle.spec_json.specs.TreeData.{data_of}
use Rattle.spec_json.specs.declared.tree.Tree.{Tree}

same_kind : (a b : Kind) → is_kind a b ≡ true → a ≡ b
same_kind Calendar Calendar h = refl
same_kind Event Event h = refl
same_kind Calendar Event h = absurd (false≢true h)
same_kind Event Calendar h = absurd (false≢true h)

-- the change is of the next object or of one that is there
abbrev pub IsNumbered : List Change → Change → Type 0
IsNumbered cs c = (c.id ≡ next_number cs c.kind) ⊎ (is_some (live_object cs c.kind c.id) ≡ true)

numbers_by : (t u : Tally) (cs : List Change) (c : Change) (k : Kind) (same : Bool) → Tallies t cs → IsNumbered cs c → is_kind k c.kind ≡ same
    → count_created u k ≡ cond same (max (count_created t k) c.id) (count_created t k) → ids_at (cs ++ c ∷ []) k ≡ cond same (range_with_len 1 (max (count_created t k) c.id)) (ids_at cs k) → ids_at (cs ++ c ∷ []) k ≡ range_with_len 1 (count_created u k)
numbers_by t u cs c k true h fit is more ids = ids ∙ ap (range_with_len 1) (sym more)
numbers_by t u cs c k false h fit is more ids = ids ∙ h.numbers k ∙ ap (range_with_len 1) (sym more)

ids_by : (t : Tally) (cs : List Change) (c : Change) (k : Kind) (same : Bool) → Tallies t cs → IsNumbered cs c → is_kind k c.kind ≡ same
    → ids_at (cs ++ c ∷ []) k ≡ cond same (range_with_len 1 (max (count_created t k) c.id)) (ids_at cs k)
ids_by t cs c k false h fit is = ids_from-push cs [] c k ∙ rw is refl
ids_by t cs c k true h fit is =
    ids_from-push cs [] c k ∙ rw (is, same_kind k c.kind is) (numbers_counted cs c (count_created t c.kind) (h.numbers c.kind) fit)

-- what an object is counted for: one, and the bytes of its text
abbrev pub one_if : Bool → ℕ
one_if b = if b then 1 else 0

counts_one : (o : Option Tree) → one_if (is_some o) ≡ held (λ (t : Tree). 1) o
counts_one None = refl
counts_one (Some t) = refl

abbrev text_size : Tree → ℕ
text_size t = length (text_of (data_of t))

counts_bytes : (o : Option Tree) → size_of_object o ≡ held text_size o
counts_bytes None = refl
counts_bytes (Some t) = refl

module _ (t : Tally) (cs : List Change) (c : Change) (h : Tallies t cs) where
  -- as many objects are live then, and so many bytes
  pub objects_then : length (live_objects (cs ++ c ∷ [])) + one_if (is_some (live_object cs c.kind c.id)) ≡ t.objects + one_if (is_some c.object)
  objects_then =
      let more = load_more (λ (u : Tree). 1) cs c (count_created t c.kind) (h.numbers c.kind) in
      omega (arith, more, ones (live_objects (cs ++ c ∷ [])), ones (live_objects cs), counts_one (live_object cs c.kind c.id), counts_one c.object, h.objects)

  pub bytes_then : live_size (cs ++ c ∷ []) + size_of_object (live_object cs c.kind c.id) ≡ t.size + size_of_object c.object
  bytes_then =
      let more = load_more text_size cs c (count_created t c.kind) (h.numbers c.kind) in
      omega (arith, more, counts_bytes (live_object cs c.kind c.id), counts_bytes c.object, h.size)

  -- what a live object takes is counted
  pub object_counted : one_if (is_some (live_object cs c.kind c.id)) ≤ t.objects
  object_counted = omega (arith, held_within (λ (u : Tree). 1) cs c.kind c.id, ones (live_objects cs), counts_one (live_object cs c.kind c.id), h.objects)

pub bytes_counted : (t : Tally) (cs : List Change) (kind : Kind) (id : ℕ) → Tallies t cs → size_of_object (live_object cs kind id) ≤ t.size
bytes_counted t cs kind id h = omega (arith, held_within text_size cs kind id, counts_bytes (live_object cs kind id), h.size)

not_lt : (m n : ℕ) → nat_le m n ≡ not (nat_lt n m)
not_lt m n = grind (arith, nat_tests)

-- there is room for a change that puts an object just where the quota isn't exceeded
pub room_told : (t : Tally) (cs : List Change) (c : Change) (gone_objects gone_bytes size : ℕ) → Tallies t cs → gone_objects ≡ one_if (is_some (live_object cs c.kind c.id))
    → gone_bytes ≡ size_of_object (live_object cs c.kind c.id) → size ≡ size_of_object c.object → is_some c.object ≡ true
    → (nat_lt t.entries MAX_CHANGES && (nat_le (t.objects - gone_objects + 1) MAX_OBJECTS && nat_le (t.size - gone_bytes + size) MAX_OBJECT_BYTES)) ≡ not (exceeds_quota cs c)
room_told t cs c gone_objects gone_bytes size h gone bytes put there =
    let objects : t.objects - gone_objects + 1 ≡ length (live_objects (cs ++ c ∷ [])) =
    let one : one_if (is_some c.object) ≡ 1 = ap one_if there in omega (arith, objects_then t cs c h, object_counted t cs c h, gone, one) in
    let taken : t.size - gone_bytes + size ≡ live_size (cs ++ c ∷ []) = omega (arith, bytes_then t cs c h, bytes_counted t cs c.kind c.id h, bytes, put) in
    ap (λ n. nat_lt n MAX_CHANGES && (nat_le (t.objects - gone_objects + 1) MAX_OBJECTS && nat_le (t.size - gone_bytes + size) MAX_OBJECT_BYTES)) h.entries
    ∙ ap (λ n. nat_lt (length cs) MAX_CHANGES && (nat_le n MAX_OBJECTS && nat_le (t.size - gone_bytes + size) MAX_OBJECT_BYTES)) objects
    ∙ ap (λ n. nat_lt (length cs) MAX_CHANGES && (nat_le (length (live_objects (cs ++ c ∷ []))) MAX_OBJECTS && nat_le n MAX_OBJECT_BYTES)) taken
    ∙ by_tests (nat_lt (length cs) MAX_CHANGES) (nat_lt MAX_OBJECTS (length (live_objects (cs ++ c ∷ [])))) (nat_lt MAX_OBJECT_BYTES (live_size (cs ++ c ∷ [])))
    (nat_le (length (live_objects (cs ++ c ∷ []))) MAX_OBJECTS) (nat_le (live_size (cs ++ c ∷ [])) MAX_OBJECT_BYTES)
    (not_lt (length (live_objects (cs ++ c ∷ []))) MAX_OBJECTS) (not_lt (live_size (cs ++ c ∷ [])) MAX_OBJECT_BYTES) (is_some c.object) there
  where
    by_tests : (few many large within small : Bool) → within ≡ not many → small ≡ not large → (put : Bool) → put ≡ true → (few && (within && small)) ≡ not (not few || (put && (many || large)))
    by_tests few many large within small w s put p = rw (w, s, p) (by_cases few many large)
      where
        by_cases : (few many large : Bool) → (few && (not many && not large)) ≡ not (not few || (many || large))
        by_cases true true large = refl
        by_cases true false large = refl
        by_cases false many large = refl

-- and for a removal until there were as many changes as may ever be
pub removal_told : (t : Tally) (cs : List Change) (c : Change) → Tallies t cs → is_some c.object ≡ false → nat_lt t.entries MAX_CHANGES ≡ not (exceeds_quota cs c)
removal_told t cs c h none = ap (λ n. nat_lt n MAX_CHANGES) h.entries ∙ by_test (nat_lt (length cs) MAX_CHANGES) (is_some c.object) none (nat_lt MAX_OBJECTS (length (live_objects (cs ++ c ∷ []))) || nat_lt MAX_OBJECT_BYTES (live_size (cs ++ c ∷ [])))
  where
    by_test : (few put : Bool) → put ≡ false → (over : Bool) → few ≡ not (not few || (put && over))
    by_test few put p over = rw p (by_cases few)
      where
        by_cases : (few : Bool) → few ≡ not (not few || false)
        by_cases true = refl
        by_cases false = refl

-- a change that fits has room
pub room_within : (t : Tally) (cs : List Change) (c : Change) → Tallies t cs → exceeds_quota cs c ≡ false → t.objects ≤ MAX_OBJECTS → t.size ≤ MAX_OBJECT_BYTES
    → (length (live_objects (cs ++ c ∷ [])) ≤ MAX_OBJECTS) × (live_size (cs ++ c ∷ []) ≤ MAX_OBJECT_BYTES)
room_within t cs c h fits few small = by_object c.object refl
  where
    by_object : (o : Option Tree) → c.object ≡ o → (length (live_objects (cs ++ c ∷ [])) ≤ MAX_OBJECTS) × (live_size (cs ++ c ∷ []) ≤ MAX_OBJECT_BYTES)
    by_object None is =
        let one = ap (λ o. one_if (is_some o)) is in
        let none = ap size_of_object is in
        (omega (arith, objects_then t cs c h, one, few), omega (arith, bytes_then t cs c h, none, small))
    by_object (Some u) is =
        let tests = or_parts (not (nat_lt (length cs) MAX_CHANGES)) _ fits in
        let both = or_parts (nat_lt MAX_OBJECTS (length (live_objects (cs ++ c ∷ [])))) (nat_lt MAX_OBJECT_BYTES (live_size (cs ++ c ∷ [])))
        (sym (ap (λ o. is_some o && (nat_lt MAX_OBJECTS (length (live_objects (cs ++ c ∷ []))) || nat_lt MAX_OBJECT_BYTES (live_size (cs ++ c ∷ [])))) is) ∙ tests.1) in
        (ltb-false MAX_OBJECTS (length (live_objects (cs ++ c ∷ []))) both.0, ltb-false MAX_OBJECT_BYTES (live_size (cs ++ c ∷ [])) both.1)

pub tally_counted : (t u : Tally) (cs : List Change) (c : Change) (gone_objects gone_bytes put_objects put_bytes : ℕ) → Tallies t cs → IsNumbered cs c → gone_objects ≡ one_if (is_some (live_object cs c.kind c.id))
    → gone_bytes ≡ size_of_object (live_object cs c.kind c.id) → put_objects ≡ one_if (is_some c.object) → put_bytes ≡ size_of_object c.object
    → u.entries ≡ t.entries + 1 → u.objects + gone_objects ≡ t.objects + put_objects → u.size + gone_bytes ≡ t.size + put_bytes
    → ((k : Kind) → count_created u k ≡ cond (is_kind k c.kind) (max (count_created t k) c.id) (count_created t k)) → Tallies u (cs ++ c ∷ [])
tally_counted t u cs c gone_objects gone_bytes put_objects put_bytes h fit gone bytes put size entries objects total more = record {
  entries = omega (arith, length-append cs (c ∷ []), h.entries, entries);
  objects = omega (arith, objects_then t cs c h, gone, put, objects);
  size = omega (arith, bytes_then t cs c h, bytes, size, total);
  numbers = λ k. numbers_by t u cs c k (is_kind k c.kind) h fit refl (more k) (ids_by t cs c k (is_kind k c.kind) h fit refl);
}

-- a change that fits is of the next object at most
next_by : (t : Tally) (cs : List Change) (c : Change) → Tallies t cs → (c.id ≡ next_number cs c.kind) ⊎ (is_some (live_object cs c.kind c.id) ≡ true) → c.id ≤ count_created t c.kind + 1
next_by t cs c h (inl next) = omega (arith, next, next_is cs (count_created t c.kind) c.kind (h.numbers c.kind))
next_by t cs c h (inr live) = omega (arith, in_range 1 (count_created t c.kind) c.id (subst (λ ids. is_in ids c.id ≡ true) (h.numbers c.kind) (numbered_if_live cs c.kind c.id _ [] (λ e. absurd (false≢true e)) live)))

pub next : (t : Tally) (cs : List Change) (c : Change) → Tallies t cs → IsNumbered cs c → c.id ≤ count_created t c.kind + 1
next t cs c h fit = next_by t cs c h fit

pub length_created : (t : Tally) (cs : List Change) (k : Kind) → Tallies t cs → length (ids_at cs k) ≡ count_created t k
length_created t cs k h = ap length (h.numbers k) ∙ length-range_with_len 1 (count_created t k)

-- no object has the number after those that were created
pub next_is_new : (t : Tally) (cs : List Change) (k : Kind) → Tallies t cs → live_object cs k (count_created t k + 1) ≡ None
next_is_new t cs k h = by_object (live_object cs k (count_created t k + 1)) refl
  where
    by_object : (o : Option Tree) → live_object cs k (count_created t k + 1) ≡ o → o ≡ None
    by_object None e = refl
    by_object (Some u) e =
        let known = subst (λ ids. is_in ids (count_created t k + 1) ≡ true) (h.numbers k) (numbered_if_live cs k (count_created t k + 1) _ [] (λ g. absurd (false≢true g)) (ap is_some e)) in
        absurd (omega (arith, in_range 1 (count_created t k) (count_created t k + 1) known))

-- what counting a change asks for, and keeping the bytes of its object
pub record HasRoomFor (t : Tally) (gone_objects gone_bytes put_objects put_bytes : ℕ) : Type 0 where
  pub few : t.entries < MAX_CHANGES
  pub had : gone_objects ≤ t.objects
  pub had_bytes : gone_bytes ≤ t.size
  pub within : t.objects - gone_objects + put_objects ≤ MAX_OBJECTS
  pub small : t.size - gone_bytes + put_bytes ≤ MAX_OBJECT_BYTES
  pub one : put_bytes ≤ MAX_OBJECT_BYTES

pub room_for : (t : Tally) (cs : List Change) (c : Change) (gone_objects gone_bytes put_objects put_bytes : ℕ) → Tallies t cs → exceeds_quota cs c ≡ false → t.objects ≤ MAX_OBJECTS → t.size ≤ MAX_OBJECT_BYTES
    → gone_objects ≡ one_if (is_some (live_object cs c.kind c.id)) → gone_bytes ≡ size_of_object (live_object cs c.kind c.id) → put_objects ≡ one_if (is_some c.object) → put_bytes ≡ size_of_object c.object
    → HasRoomFor t gone_objects gone_bytes put_objects put_bytes
room_for t cs c gone_objects gone_bytes put_objects put_bytes h fits few small gone bytes put size =
    let most = room_within t cs c h fits few small in
    let tests = or_parts (not (nat_lt (length cs) MAX_CHANGES)) _ fits in
    let counted = ltb-true (length cs) MAX_CHANGES (not-false (nat_lt (length cs) MAX_CHANGES) tests.0) in
    let objects = objects_then t cs c h in
    let taken = bytes_then t cs c h in
    let had = object_counted t cs c h in
    let had_bytes = bytes_counted t cs c.kind c.id h in
    record {
      few = omega (arith, counted, h.entries);
      had = omega (arith, had, gone);
      had_bytes = omega (arith, had_bytes, bytes);
      within = omega (arith, objects, had, most.0, gone, put);
      small = omega (arith, taken, had_bytes, most.1, bytes, size);
      one = omega (arith, taken, had_bytes, most.1, size);
    }
