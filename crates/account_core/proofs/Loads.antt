-- What the live objects take, after one change more.
use Rattle.std.proofs.Common.{◌≡◌, ◌≤◌, ◌+◌, ◌==◌, ◌&&◌, ◌||◌, ℕ, zero, suc, Bool, true, false, cond, List, [], ◌∷◌, ◌++◌, Option, None, Some, flat_map, is_some, length, sum_by, add-zero, arith, refl, sym, ap, ◌∙◌}
use Rattle.std.proofs.lemmas.Bool.{eqb-true, false≢true, or_parts}
use Rattle.std.proofs.lemmas.Bool.Decides.{nat_tests}
use Rattle.std.proofs.lemmas.List.Sums.{sum_by-append, sum_by-cons}
use Rattle.std.specs.List.{range_with_len}
use Rattle.account_core.proofs.Committing.{object_from_append}
use Rattle.object_log.proofs.PutLemmas.{below_range}
use Rattle.account_rooms.proofs.Changes.{ids_from-push, with_known}
use Rattle.cal_model.specs.Quota.{live_objects}
use Rattle.spec_bookings.proofs.Numbered.{numbered_if_live}
use Rattle.spec_history.specs.History.{ids_at, is_kind, live_at, live_object, some_object, with_id}
use Rattle.spec_history.specs.Pages.{is_in}
use Rattle.spec_history.specs.declared.entry.Change.{Change}
use Rattle.spec_history.specs.declared.entry.Kind.{Kind}
use Rattle.spec_history.specs.declared.entry.Kind.TheVariants.{Calendar, Event}
use Rattle.spec_json.specs.declared.tree.Tree.{Tree}

-- ---- sums over numbers that differ in one

-- a number, in place of those of one id
abbrev with_one : ℕ → ℕ → (ℕ → ℕ) → ℕ → ℕ
with_one x g f id = cond (id == x) g (f id)

absent_same : (x g : ℕ) (f : ℕ → ℕ) (ids : List ℕ) → is_in ids x ≡ false → sum_by (with_one x g f) ids ≡ sum_by f ids
absent_same x g f [] h = refl
absent_same x g f (id ∷ ids) h =
    let parts = or_parts (id == x) (is_in ids x) h in
    sum_by-cons (with_one x g f) id ids ∙ ap (λ b. cond b g (f id) + sum_by (with_one x g f) ids) parts.0 ∙ ap (λ n. f id + n) (absent_same x g f ids parts.1) ∙ sym (sum_by-cons f id ids)

changed_first : (x g : ℕ) (f : ℕ → ℕ) (a n : ℕ) (b : Bool) → (a == x) ≡ b → (b || is_in (range_with_len (a + 1) n) x) ≡ true
    → (is_in (range_with_len (a + 1) n) x ≡ true → sum_by (with_one x g f) (range_with_len (a + 1) n) + f x ≡ sum_by f (range_with_len (a + 1) n) + g)
    → sum_by (with_one x g f) (a ∷ range_with_len (a + 1) n) + f x ≡ sum_by f (a ∷ range_with_len (a + 1) n) + g
changed_first x g f a n true is h more =
    let same : a ≡ x = eqb-true a x is in
    let rest = absent_same x g f (range_with_len (a + 1) n) (below_range (a + 1) n x (omega (arith, same))) in
    let front = sum_by-cons (with_one x g f) a (range_with_len (a + 1) n) ∙ ap (λ b. cond b g (f a) + sum_by (with_one x g f) (range_with_len (a + 1) n)) is in
    let before = sum_by-cons f a (range_with_len (a + 1) n) in
    let value = ap f same in
    omega (arith, rest, front, before, value)
changed_first x g f a n false is h more =
    let rest = more h in
    let front = sum_by-cons (with_one x g f) a (range_with_len (a + 1) n) ∙ ap (λ b. cond b g (f a) + sum_by (with_one x g f) (range_with_len (a + 1) n)) is in
    let before = sum_by-cons f a (range_with_len (a + 1) n) in
    omega (arith, rest, front, before)

present_changed : (x g : ℕ) (f : ℕ → ℕ) (a n : ℕ) → is_in (range_with_len a n) x ≡ true → sum_by (with_one x g f) (range_with_len a n) + f x ≡ sum_by f (range_with_len a n) + g
present_changed x g f a zero h = absurd (false≢true h)
present_changed x g f a (suc n) h = changed_first x g f a n (a == x) refl h (present_changed x g f (a + 1) n)

part_first : (x : ℕ) (f : ℕ → ℕ) (id : ℕ) (ids : List ℕ) (b : Bool) → (id == x) ≡ b → (b || is_in ids x) ≡ true → (is_in ids x ≡ true → f x ≤ sum_by f ids) → f x ≤ sum_by f (id ∷ ids)
part_first x f id ids true is h more = let value = ap f (eqb-true id x is) in omega (arith, value, sum_by-cons f id ids)
part_first x f id ids false is h more = let rest = more h in omega (arith, rest, sum_by-cons f id ids)

present_part : (x : ℕ) (f : ℕ → ℕ) (ids : List ℕ) → is_in ids x ≡ true → f x ≤ sum_by f ids
present_part x f [] h = absurd (false≢true h)
present_part x f (id ∷ ids) h = part_first x f id ids (id == x) refl h (present_part x f ids)

-- ---- what objects take

module _ (w : Tree → ℕ) where
  -- what an object takes, where there is one
  abbrev pub held : Option Tree → ℕ
  held None = 0
  held (Some t) = w t

  some_held : (o : Option Tree) → sum_by w (some_object o) ≡ held o
  some_held None = refl
  some_held (Some t) = sum_by-cons w t [] ∙ add-zero (w t)

  all_held : (o : ℕ → Option Tree) (ids : List ℕ) → sum_by w (flat_map (λ id. some_object (o id)) ids) ≡ sum_by (λ id. held (o id)) ids
  all_held o [] = refl
  all_held o (id ∷ ids) =
      sum_by-append w (some_object (o id)) (flat_map (λ n. some_object (o n)) ids) ∙ ap (λ n. n + sum_by w (flat_map (λ m. some_object (o m)) ids)) (some_held (o id))
      ∙ ap (λ n. held (o id) + n) (all_held o ids) ∙ sym (sum_by-cons (λ n. held (o n)) id ids)

  -- what the live objects of a kind take
  abbrev taken : List Change → Kind → ℕ
  taken cs kind = sum_by w (live_at cs kind)

  module _ (cs : List Change) (c : Change) where
    abbrev more : List Change
    more = cs ++ c ∷ []

    after : (id : ℕ) → live_object more c.kind id ≡ cond (is_kind c.kind c.kind) (cond (id == c.id) c.object (live_object cs c.kind id)) (live_object cs c.kind id)
    after id = object_from_append cs (c ∷ []) None c.kind id ∙ by_kind (is_kind c.kind c.kind)
      where
        by_kind : (b : Bool) → cond (b && (id == c.id)) c.object (live_object cs c.kind id) ≡ cond b (cond (id == c.id) c.object (live_object cs c.kind id)) (live_object cs c.kind id)
        by_kind true = refl
        by_kind false = refl

    own_kind : (kind : Kind) → is_kind kind kind ≡ true
    own_kind Calendar = refl
    own_kind Event = refl

    held_after : (id : ℕ) → held (live_object more c.kind id) ≡ with_one c.id (held c.object) (λ n. held (live_object cs c.kind n)) id
    held_after id = ap held (after id ∙ ap (λ b. cond b (cond (id == c.id) c.object (live_object cs c.kind id)) (live_object cs c.kind id)) (own_kind c.kind)) ∙ either (id == c.id)
      where
        either : (b : Bool) → held (cond b c.object (live_object cs c.kind id)) ≡ cond b (held c.object) (held (live_object cs c.kind id))
        either true = refl
        either false = refl

    ids_after : ids_at more c.kind ≡ with_id (ids_at cs c.kind) c.id
    ids_after = ids_from-push cs [] c c.kind ∙ ap (λ b. cond b (with_id (ids_at cs c.kind) c.id) (ids_at cs c.kind)) (own_kind c.kind)

    abbrev before_by : ℕ → ℕ
    before_by id = held (live_object cs c.kind id)

    taken_is : taken more c.kind ≡ sum_by (with_one c.id (held c.object) before_by) (with_id (ids_at cs c.kind) c.id)
    taken_is =
        all_held (live_object more c.kind) (ids_at more c.kind) ∙ (λ i. sum_by (λ id. held_after id i) (ids_at more c.kind))
        ∙ ap (sum_by (with_one c.id (held c.object) before_by)) ids_after

    -- an object that is not there takes nothing
    absent_held : is_in (ids_at cs c.kind) c.id ≡ false → before_by c.id ≡ 0
    absent_held h = by_object (live_object cs c.kind c.id) refl
      where
        by_object : (o : Option Tree) → live_object cs c.kind c.id ≡ o → held o ≡ 0
        by_object None is = refl
        by_object (Some t) is = absurd (false≢true (sym h ∙ numbered_if_live cs c.kind c.id _ [] (λ e. absurd (false≢true e)) (ap is_some is)))

    own_taken : (n : ℕ) → ids_at cs c.kind ≡ range_with_len 1 n → taken more c.kind + before_by c.id ≡ taken cs c.kind + held c.object
    own_taken n numbered = by_known (is_in (ids_at cs c.kind) c.id) refl
      where
        was : taken cs c.kind ≡ sum_by before_by (ids_at cs c.kind)
        was = all_held (live_object cs c.kind) (ids_at cs c.kind)

        last_is : (id : ℕ) → with_one id (held c.object) before_by id ≡ held c.object
        last_is id = ap (λ b. cond b (held c.object) (before_by id)) (same_id id)
          where
            same_id : (m : ℕ) → (m == m) ≡ true
            same_id m = grind (arith, nat_tests)

        by_known : (b : Bool) → is_in (ids_at cs c.kind) c.id ≡ b → taken more c.kind + before_by c.id ≡ taken cs c.kind + held c.object
        by_known true is =
            let all = taken_is ∙ ap (sum_by (with_one c.id (held c.object) before_by)) (with_known (ids_at cs c.kind) c.id is ∙ numbered) in
            let changed = present_changed c.id (held c.object) before_by 1 n (sym (ap (λ ids. is_in ids c.id) numbered) ∙ is) in
            let old = was ∙ ap (sum_by before_by) numbered in
            omega (arith, all, changed, old)
        by_known false is =
            let all = taken_is ∙ ap (λ b. sum_by (with_one c.id (held c.object) before_by) (cond b (ids_at cs c.kind) (ids_at cs c.kind ++ c.id ∷ []))) is
            ∙ sum_by-append (with_one c.id (held c.object) before_by) (ids_at cs c.kind) (c.id ∷ []) in
            let last = sum_by-cons (with_one c.id (held c.object) before_by) c.id [] ∙ ap (λ m. m + 0) (last_is c.id) in
            let rest = absent_same c.id (held c.object) before_by (ids_at cs c.kind) is in
            omega (arith, all, last, rest, was, absent_held is)

    other_taken : (kind : Kind) → is_kind kind c.kind ≡ false → taken more kind ≡ taken cs kind
    other_taken kind other =
        all_held (live_object more kind) (ids_at more kind) ∙ (λ i. sum_by (λ id. held (same_object id i)) (ids_at more kind))
        ∙ ap (sum_by (λ id. held (live_object cs kind id))) (ids_from-push cs [] c kind ∙ ap (λ b. cond b (with_id (ids_at cs kind) c.id) (ids_at cs kind)) other)
        ∙ sym (all_held (live_object cs kind) (ids_at cs kind))
      where
        same_object : (id : ℕ) → live_object more kind id ≡ live_object cs kind id
        same_object id = object_from_append cs (c ∷ []) None kind id ∙ ap (λ b. cond (b && (id == c.id)) c.object (live_object cs kind id)) other

  -- what all live objects take
  abbrev pub load : List Change → ℕ
  load cs = sum_by w (live_objects cs)

  by_kinds : (cs : List Change) → load cs ≡ taken cs Calendar + taken cs Event
  by_kinds cs = sum_by-append w (live_at cs Calendar) (live_at cs Event)

  -- one change more puts what its object takes, and gives up what that took before
  pub load_more : (cs : List Change) (c : Change) (n : ℕ) → ids_at cs c.kind ≡ range_with_len 1 n → load (cs ++ c ∷ []) + held (live_object cs c.kind c.id) ≡ load cs + held c.object
  load_more cs c n numbered = by_kind c.kind refl
    where
      by_kind : (kind : Kind) → c.kind ≡ kind → load (cs ++ c ∷ []) + held (live_object cs c.kind c.id) ≡ load cs + held c.object
      by_kind Calendar is =
          let own = ap (λ k. taken (cs ++ c ∷ []) k) (sym is) in
          let was = ap (λ k. taken cs k) (sym is) in
          let other = other_taken cs c Event (ap (is_kind Event) is) in
          omega (arith, own_taken cs c n numbered, own, was, other, by_kinds (cs ++ c ∷ []), by_kinds cs)
      by_kind Event is =
          let own = ap (λ k. taken (cs ++ c ∷ []) k) (sym is) in
          let was = ap (λ k. taken cs k) (sym is) in
          let other = other_taken cs c Calendar (ap (is_kind Calendar) is) in
          omega (arith, own_taken cs c n numbered, own, was, other, by_kinds (cs ++ c ∷ []), by_kinds cs)

  -- a live object takes no more than all do
  pub held_within : (cs : List Change) (kind : Kind) (id : ℕ) → held (live_object cs kind id) ≤ load cs
  held_within cs kind id = by_kind kind (by_known (is_in (ids_at cs kind) id) refl)
    where
      none_held : (o : Option Tree) → live_object cs kind id ≡ o → is_in (ids_at cs kind) id ≡ false → held o ≡ 0
      none_held None is h = refl
      none_held (Some t) is h = absurd (false≢true (sym h ∙ numbered_if_live cs kind id _ [] (λ e. absurd (false≢true e)) (ap is_some is)))

      by_known : (b : Bool) → is_in (ids_at cs kind) id ≡ b → held (live_object cs kind id) ≤ taken cs kind
      by_known true is = omega (arith, present_part id (λ n. held (live_object cs kind n)) (ids_at cs kind) is, all_held (live_object cs kind) (ids_at cs kind))
      by_known false is = omega (arith, none_held (live_object cs kind id) refl is)

      by_kind : (k : Kind) → held (live_object cs kind id) ≤ taken cs k → held (live_object cs kind id) ≤ load cs
      by_kind Calendar h = omega (arith, h, by_kinds cs)
      by_kind Event h = omega (arith, h, by_kinds cs)

-- as many as there are
pub ones : (ts : List Tree) → sum_by (λ t. 1) ts ≡ length ts
ones [] = refl
ones (t ∷ ts) = sum_by-cons (λ (u : Tree). 1) t ts ∙ ap (λ n. 1 + n) (ones ts) ∙ omega arith
