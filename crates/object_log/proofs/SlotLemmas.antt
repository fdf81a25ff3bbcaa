-- Slots whose ids rise.
use Rattle.std.proofs.Common.{◌≡◌, ◌≤◌, ◌<◌, ◌==◌, ◌||◌, ℕ, zero, suc, List, [], ◌∷◌, ◌++◌, Bool, true, false, cond, Option, None, Some, Ok, Err, is_some, filter, get_or, length, set, arith, refl, sym, ap, ◌∙◌, ⊎_elim}
use Rattle.std.specs.Prelude.{nat_lt}
use Rattle.std.specs.List.Sorted.{IsBinarySearchResult, IsNonDecreasingBy}
use Rattle.std.specs.Ordering.{nat_cmp, ordering_index}
use Rattle.std.proofs.lemmas.Bool.{and_from, and_parts, cases_Bool, cases_lt, eq-eqb, eqb-true, false≢true, lt-ltb, ltb-true}
use Rattle.std.proofs.lemmas.Cmp.{ranked}
use Rattle.std.proofs.lemmas.Bool.Decides.{nat_tests}
use Rattle.object_log.specs.Slots.{object_in, rises}
use Rattle.object_log.specs.declared.slots.IdSlot.{IdSlot}

pub unlike : (a b : ℕ) → a < b → (a == b) ≡ false
unlike a b h = ⊎_elim (λ t. absurd (let e = eqb-true a b t in omega (arith, h, e))) (λ f. f) (cases_Bool (a == b))

pub unlike_above : (a b : ℕ) → b < a → (a == b) ≡ false
unlike_above a b h = ⊎_elim (λ t. absurd (let e = eqb-true a b t in omega (arith, h, e))) (λ f. f) (cases_Bool (a == b))

module _ {T : Type 0} where
  swapped : (a b : Bool) (x y z : Option T) → (a ≡ true → b ≡ true → x ≡ y) → cond a x (cond b y z) ≡ cond b y (cond a x z)
  swapped true true x y z h = h refl refl
  swapped true false x y z h = refl
  swapped false true x y z h = refl
  swapped false false x y z h = refl

  pub ends_above : (low high : ℕ) (ss : List (IdSlot T)) → rises low high ss ≡ true → low < high
  ends_above low high [] up = ltb-true low high up
  ends_above low high (s ∷ ss) up = let parts = and_parts (nat_lt low s.id) (rises s.id high ss) up in omega (arith, ltb-true low s.id parts.0, ends_above s.id high ss parts.1)

  -- no slot has an id that lies below them all
  pub absent_below : (low high q : ℕ) (ss : List (IdSlot T)) → rises low high ss ≡ true → q ≤ low → object_in ss q ≡ None
  absent_below low high q [] up h = refl
  absent_below low high q (s ∷ ss) up h =
      let parts = and_parts (nat_lt low s.id) (rises s.id high ss) up in
      let above = ltb-true low s.id parts.0 in
      ap (λ b. cond b s.object (object_in ss q)) (unlike_above s.id q (omega (arith, above, h))) ∙ absent_below s.id high q ss parts.1 (omega (arith, above, h))

  -- nor one that lies above them
  pub absent_above : (low high q : ℕ) (ss : List (IdSlot T)) → rises low high ss ≡ true → high ≤ q → object_in ss q ≡ None
  absent_above low high q [] up h = refl
  absent_above low high q (s ∷ ss) up h =
      let parts = and_parts (nat_lt low s.id) (rises s.id high ss) up in
      ap (λ b. cond b s.object (object_in ss q)) (unlike s.id q (omega (arith, ends_above s.id high ss parts.1, h))) ∙ absent_above s.id high q ss parts.1 h

  -- from a lower id on they rise too
  pub rises_from : (less low high : ℕ) (ss : List (IdSlot T)) → less ≤ low → rises low high ss ≡ true → rises less high ss ≡ true
  rises_from less low high [] h up = lt-ltb less high (omega (arith, h, ltb-true low high up))
  rises_from less low high (s ∷ ss) h up =
      let parts = and_parts (nat_lt low s.id) (rises s.id high ss) up in
      and_from (nat_lt less s.id) (rises s.id high ss) (lt-ltb less s.id (omega (arith, h, ltb-true low s.id parts.0))) parts.1

  -- with the next one behind them
  pub rises_push : (low high : ℕ) (ss : List (IdSlot T)) (s : IdSlot T) → rises low s.id ss ≡ true → s.id < high → rises low high (ss ++ s ∷ []) ≡ true
  rises_push low high [] s up h = and_from (nat_lt low s.id) (nat_lt s.id high) up (lt-ltb s.id high h)
  rises_push low high (r ∷ ss) s up h =
      let parts = and_parts (nat_lt low r.id) (rises r.id s.id ss) up in
      and_from (nat_lt low r.id) (rises r.id high (ss ++ s ∷ [])) parts.0 (rises_push r.id high ss s parts.1 h)

  -- a slot that gets another object keeps its id
  pub rises_set : (low high at id : ℕ) (o : Option T) (ss : List (IdSlot T)) → at < length ss → ((d : IdSlot T) → (get_or ss at d).id ≡ id) → rises low high ss ≡ true
      → rises low high (set ss at (record { id = id; object = o })) ≡ true
  rises_set low high at id o [] h here up = absurd (omega (arith, h))
  rises_set low high zero id o (s ∷ ss) h here up = let e : s.id ≡ id = here s in rw (← e) up
  rises_set low high (suc at) id o (s ∷ ss) h here up =
      let parts = and_parts (nat_lt low s.id) (rises s.id high ss) up in
      and_from (nat_lt low s.id) _ parts.0 (rises_set s.id high at id o ss (omega (arith, h)) here parts.1)

  rises_keep : (low high : ℕ) (s : IdSlot T) (ss : List (IdSlot T)) (b : Bool) → nat_lt low s.id ≡ true → rises s.id high ss ≡ true → rises low high (cond b (s ∷ ss) ss) ≡ true
  rises_keep low high s ss true here up = and_from (nat_lt low s.id) (rises s.id high ss) here up
  rises_keep low high s ss false here up = let above = ltb-true low s.id here in rises_from low s.id high ss (omega (arith, above)) up

  -- some of them rise too
  pub rises_filter : (keep : IdSlot T → Bool) (low high : ℕ) (ss : List (IdSlot T)) → rises low high ss ≡ true → rises low high (filter keep ss) ≡ true
  rises_filter keep low high [] up = up
  rises_filter keep low high (s ∷ ss) up =
      let parts = and_parts (nat_lt low s.id) (rises s.id high ss) up in
      rises_keep low high s (filter keep ss) (keep s) parts.0 (rises_filter keep s.id high ss parts.1)

  -- ---- what is found

  pub above_low : (low high at : ℕ) (ss : List (IdSlot T)) (d : IdSlot T) → rises low high ss ≡ true → at < length ss → low < (get_or ss at d).id
  above_low low high at [] d up h = absurd (omega (arith, h))
  above_low low high zero (s ∷ ss) d up h = ltb-true low s.id (and_parts (nat_lt low s.id) (rises s.id high ss) up).0
  above_low low high (suc at) (s ∷ ss) d up h =
      let parts = and_parts (nat_lt low s.id) (rises s.id high ss) up in
      omega (arith, ltb-true low s.id parts.0, above_low s.id high at ss d parts.1 (omega (arith, h)))

  -- the slot at a place is that of its id
  pub found_at : (low high at : ℕ) (ss : List (IdSlot T)) (d : IdSlot T) → rises low high ss ≡ true → at < length ss → object_in ss (get_or ss at d).id ≡ (get_or ss at d).object
  found_at low high at [] d up h = absurd (omega (arith, h))
  found_at low high zero (s ∷ ss) d up h = ap (λ b. cond b s.object (object_in ss s.id)) (eq-eqb s.id s.id refl)
  found_at low high (suc at) (s ∷ ss) d up h =
      let parts = and_parts (nat_lt low s.id) (rises s.id high ss) up in
      let id = (get_or ss at d).id in
      ap (λ b. cond b s.object (object_in ss id)) (unlike s.id id (above_low s.id high at ss d parts.1 (omega (arith, h)))) ∙ found_at s.id high at ss d parts.1 (omega (arith, h))

  -- ids at two places
  pub rise_between : (low high i j : ℕ) (ss : List (IdSlot T)) (d : IdSlot T) → rises low high ss ≡ true → i < j → j < length ss → (get_or ss i d).id < (get_or ss j d).id
  rise_between low high i j [] d up h within = absurd (omega (arith, within))
  rise_between low high i zero (s ∷ ss) d up h within = absurd (omega (arith, h))
  rise_between low high zero (suc j) (s ∷ ss) d up h within = above_low s.id high j ss d (and_parts (nat_lt low s.id) (rises s.id high ss) up).1 (omega (arith, within))
  rise_between low high (suc i) (suc j) (s ∷ ss) d up h within = rise_between s.id high i j ss d (and_parts (nat_lt low s.id) (rises s.id high ss) up).1 (omega (arith, h)) (omega (arith, within))

  -- an id that no place has has no slot
  pub absent_everywhere : (id : ℕ) (ss : List (IdSlot T)) → ((i : ℕ) (d : IdSlot T) → i < length ss → ((get_or ss i d).id == id) ≡ false) → object_in ss id ≡ None
  absent_everywhere id [] h = refl
  absent_everywhere id (s ∷ ss) h =
      ap (λ b. cond b s.object (object_in ss id)) (h 0 s (omega arith)) ∙ absent_everywhere id ss (λ i d l. h (suc i) d (omega (arith, l)))

  -- an id that has an object is one of those that were given
  pub given_id : (n id : ℕ) (ss : List (IdSlot T)) → rises 0 (suc n) ss ≡ true → is_some (object_in ss id) ≡ true → (1 ≤ id) × (id ≤ n)
  given_id n id ss up has = (
    ⊎_elim (λ (above : 0 < id). omega (arith, above)) (λ (none : id ≤ 0). absurd (false≢true (sym (ap is_some (absent_below 0 (suc n) id ss up none)) ∙ has))) (cases_lt 0 id),
    ⊎_elim (λ (below : id < suc n). omega (arith, below)) (λ (past : suc n ≤ id). absurd (false≢true (sym (ap is_some (absent_above 0 (suc n) id ss up past)) ∙ has))) (cases_lt id (suc n)),
  )

  pub next_id : (n id : ℕ) (ss : List (IdSlot T)) → rises 0 (suc n) ss ≡ true → ((id == suc n) || is_some (object_in ss id)) ≡ true → (1 ≤ id) × (id ≤ suc n)
  next_id n id ss up next = ⊎_elim
      (λ (same : (id == suc n) ≡ true). let e = eqb-true id (suc n) same in (omega (arith, e), omega (arith, e)))
      (λ (other : (id == suc n) ≡ false). let h = given_id n id ss up (ap (λ b. b || is_some (object_in ss id)) (sym other) ∙ next) in (omega (arith, h.0), omega (arith, h.1)))
      (cases_Bool (id == suc n))

  -- ---- what a change does

  pub object_set : (low high at id : ℕ) (o : Option T) (ss : List (IdSlot T)) (q : ℕ) → rises low high ss ≡ true → at < length ss → ((d : IdSlot T) → (get_or ss at d).id ≡ id)
      → object_in (set ss at (record { id = id; object = o })) q ≡ cond (id == q) o (object_in ss q)
  object_set low high at id o [] q up h here = absurd (omega (arith, h))
  object_set low high zero id o (s ∷ ss) q up h here = let e : s.id ≡ id = here s in rw e (same (id == q))
    where
      same : (b : Bool) → cond b o (object_in ss q) ≡ cond b o (cond b s.object (object_in ss q))
      same true = refl
      same false = refl
  object_set low high (suc at) id o (s ∷ ss) q up h here =
      let parts = and_parts (nat_lt low s.id) (rises s.id high ss) up in
      let rest = object_set s.id high at id o ss q parts.1 (omega (arith, h)) here in
      let above : s.id < id = let e = here s in omega (arith, above_low s.id high at ss s parts.1 (omega (arith, h)), e) in
      ap (λ x. cond (s.id == q) s.object x) rest ∙ swapped (s.id == q) (id == q) s.object o (object_in ss q) (λ one two. absurd (let a = eqb-true s.id q one in let b = eqb-true id q two in omega (arith, above, a, b)))

  pub object_push : (low : ℕ) (ss : List (IdSlot T)) (s : IdSlot T) (q : ℕ) → rises low s.id ss ≡ true → object_in (ss ++ s ∷ []) q ≡ cond (s.id == q) s.object (object_in ss q)
  object_push low [] s q up = refl
  object_push low (r ∷ ss) s q up =
      let parts = and_parts (nat_lt low r.id) (rises r.id s.id ss) up in
      let below = ends_above r.id s.id ss parts.1 in
      ap (λ x. cond (r.id == q) r.object x) (object_push r.id ss s q parts.1)
      ∙ swapped (r.id == q) (s.id == q) r.object s.object (object_in ss q) (λ one two. absurd (let a = eqb-true r.id q one in let b = eqb-true s.id q two in omega (arith, below, a, b)))

  -- slots without an object say nothing
  pub object_filter : (low high q : ℕ) (ss : List (IdSlot T)) → rises low high ss ≡ true → object_in (filter (λ s. is_some s.object) ss) q ≡ object_in ss q
  object_filter low high q [] up = refl
  object_filter low high q (s ∷ ss) up =
      let parts = and_parts (nat_lt low s.id) (rises s.id high ss) up in
      keep (is_some s.object) refl (object_filter s.id high q ss parts.1) (λ same. absent_below s.id high q ss parts.1 (let e = eqb-true s.id q same in omega (arith, e)))
    where
      none_is : (o : Option T) → is_some o ≡ false → o ≡ None
      none_is None h = refl
      none_is (Some x) h = absurd (false≢true (sym h))

      gone : (b : Bool) → s.object ≡ None → (b ≡ true → object_in ss q ≡ None) → object_in ss q ≡ cond b s.object (object_in ss q)
      gone true none absent = absent refl ∙ sym none
      gone false none absent = refl

      keep : (b : Bool) → is_some s.object ≡ b → object_in (filter (λ r. is_some r.object) ss) q ≡ object_in ss q → ((s.id == q) ≡ true → object_in ss q ≡ None)
          → object_in (cond b (s ∷ filter (λ r. is_some r.object) ss) (filter (λ r. is_some r.object) ss)) q ≡ cond (s.id == q) s.object (object_in ss q)
      keep true e rest absent = ap (λ x. cond (s.id == q) s.object x) rest
      keep false e rest absent = rest ∙ gone (s.id == q) (none_is s.object e) absent

  -- ---- a binary search

  module _ (low high id : ℕ) (ss : List (IdSlot T)) (up : rises low high ss ≡ true) where
    level : (i j : ℕ) (d : IdSlot T) → i ≡ j → ordering_index (nat_cmp (get_or ss i d).id id) ≤ ordering_index (nat_cmp (get_or ss j d).id id)
    level i j d same = rw same (omega arith)

    comparisons_rise : IsNonDecreasingBy (λ (s : IdSlot T). ordering_index (nat_cmp s.id id)) ss
    comparisons_rise i j d le within = ⊎_elim
        (λ below. let rise = rise_between low high i j ss d up below within in grind (arith, nat_tests))
        (λ past. level i j d (omega (arith, le, past)))
        (cases_lt i j)

    pub searched_found : (at : ℕ) (d : IdSlot T) → IsBinarySearchResult (λ (s : IdSlot T). nat_cmp s.id id) ss (Ok at) → (get_or ss at d).id ≡ id
    searched_found at d found = ranked (get_or ss at d).id id _ (sym (found d))

    pub searched_absent : (at : ℕ) → at ≤ length ss → IsBinarySearchResult (λ (s : IdSlot T). nat_cmp s.id id) ss (Err at) → object_in ss id ≡ None
    searched_absent at within parted = absent_everywhere id ss (λ i d l. ⊎_elim
        (λ below. let less : (get_or ss i d).id < id = ranked (get_or ss i d).id id _ (sym ((parted comparisons_rise).0 i d (omega arith) below)) in unlike (get_or ss i d).id id less)
        (λ past. let more : id < (get_or ss i d).id = ranked (get_or ss i d).id id _ (sym ((parted comparisons_rise).1 i d past l)) in unlike_above (get_or ss i d).id id more)
        (cases_lt i at))
