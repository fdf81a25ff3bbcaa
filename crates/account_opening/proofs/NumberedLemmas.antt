-- Changes that give the numbers of objects in order.
use Rattle.std.proofs.Common.{◌≡◌, ◌∙◌, ◌==◌, ◌++◌, ◌+◌, append-nil, append_assoc, cond, ℕ, zero, suc, List, [], ◌∷◌, Bool, true, false, inl, inr, is_some, length, arith, refl, sym, ap, subst}
use Rattle.std.proofs.lemmas.Bool.{and_parts, eqb-true, false≢true, or_cases}
use Rattle.std.specs.List.{range_with_len}
use Rattle.account_rooms.proofs.Changes.{ids_from-push, with_known, with_new}
use Rattle.object_log.proofs.PutLemmas.{past_range}
use Rattle.spec_bookings.proofs.Numbered.{numbered_if_live}
use Rattle.spec_history.specs.History.{ids_at, is_kind, live_object, next_number, with_id}
use Rattle.spec_history.specs.Pages.{is_in}
use Rattle.spec_history.specs.declared.entry.Change.{Change}
use Rattle.spec_history.specs.declared.entry.Kind.{Kind}
use Rattle.spec_history.specs.declared.entry.Kind.TheVariants.{Calendar, Event}
use Rattle.spec_snapshots.specs.Numbered.{are_numbered, is_numbered}

-- the numbers of each kind are those from 1 on, in order
abbrev pub AreInOrder : List Change → Type 0
AreInOrder cs = (kind : Kind) → ids_at cs kind ≡ range_with_len 1 (length (ids_at cs kind))

range_end : (a n : ℕ) → range_with_len a n ++ (a + n) ∷ [] ≡ range_with_len a (suc n)
range_end a zero = ap (λ m. m ∷ []) (omega arith)
range_end a (suc n) = ap (λ l. a ∷ l) (ap (λ m. range_with_len (a + 1) n ++ m ∷ []) (omega arith) ∙ range_end (a + 1) n)

same_kind : (q r : Kind) → is_kind q r ≡ true → q ≡ r
same_kind Calendar Calendar h = refl
same_kind Event Event h = refl
same_kind Calendar Event h = absurd (false≢true h)
same_kind Event Calendar h = absurd (false≢true h)

-- the next number goes to the end
next_in_order : (ids : List ℕ) → ids ≡ range_with_len 1 (length ids) → with_id ids (suc (length ids)) ≡ range_with_len 1 (suc (length ids))
next_in_order ids h =
    with_new ids (suc (length ids)) (ap (λ l. is_in l (suc (length ids))) h ∙ past_range 1 (length ids) (suc (length ids)) (omega arith))
    ∙ ap (λ l. l ++ suc (length ids) ∷ []) h ∙ ap (λ m. range_with_len 1 (length ids) ++ m ∷ []) (omega arith) ∙ range_end 1 (length ids)

of_range : (ns : List ℕ) (n : ℕ) → ns ≡ range_with_len 1 n → ns ≡ range_with_len 1 (length ns)
of_range ns n h = h ∙ ap (range_with_len 1) (sym (ap (λ (l : List ℕ). length l) h ∙ long 1 n))
  where
    long : (a n : ℕ) → length (range_with_len a n) ≡ n
    long a zero = refl
    long a (suc n) = ap suc (long (a + 1) n)

module _ (before : List Change) (c : Change) (h : AreInOrder before) (is : is_numbered before c ≡ true) where
  of_kind_of : (kind : Kind) → kind ≡ c.kind → with_id (ids_at before kind) c.id ≡ range_with_len 1 (length (with_id (ids_at before kind) c.id))
  of_kind_of kind same = elim (or_cases (c.id == next_number before c.kind) (is_some (live_object before c.kind c.id)) is) [
    | inl next ↦
        (let id : c.id ≡ suc (length (ids_at before kind)) = eqb-true c.id (next_number before c.kind) next ∙ ap (λ q. suc (length (ids_at before q))) (sym same) in
        of_range (with_id (ids_at before kind) c.id) (suc (length (ids_at before kind))) (ap (with_id (ids_at before kind)) id ∙ next_in_order (ids_at before kind) (h kind)))
    | inr live ↦
        (let known : is_in (ids_at before kind) c.id ≡ true = ap (λ q. is_in (ids_at before q) c.id) same ∙ numbered_if_live before c.kind c.id _ [] (λ e. absurd (false≢true e)) live in
        of_range (with_id (ids_at before kind) c.id) (length (ids_at before kind)) (with_known (ids_at before kind) c.id known ∙ h kind))
  ]

  one_more : AreInOrder (before ++ c ∷ [])
  one_more kind = subst (λ (ids : List ℕ). ids ≡ range_with_len 1 (length ids)) (sym (ids_from-push before [] c kind)) (by_kind (is_kind kind c.kind) refl)
    where
      by_kind : (b : Bool) → is_kind kind c.kind ≡ b
          → cond b (with_id (ids_at before kind) c.id) (ids_at before kind) ≡ range_with_len 1 (length (cond b (with_id (ids_at before kind) c.id) (ids_at before kind)))
      by_kind true e = of_kind_of kind (same_kind kind c.kind e)
      by_kind false e = h kind

in_order_behind : (before cs : List Change) → AreInOrder before → are_numbered before cs ≡ true → AreInOrder (before ++ cs)
in_order_behind before [] h is = subst AreInOrder (sym (append-nil before)) h
in_order_behind before (c ∷ cs) h is =
    let parts = and_parts (is_numbered before c) (are_numbered (before ++ c ∷ []) cs) is in
    subst AreInOrder (append_assoc before (c ∷ []) cs) (in_order_behind (before ++ c ∷ []) cs (one_more before c h parts.0) parts.1)

-- changes that give the numbers in order have them so
pub numbers_in_order : (cs : List Change) → are_numbered [] cs ≡ true → AreInOrder cs
numbers_in_order cs is = in_order_behind [] cs (λ kind. refl) is
