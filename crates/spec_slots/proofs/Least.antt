-- What is found is the first quarter against which nothing stands.
use Rattle.std.proofs.Common.{◌≡◌, ℕ, zero, suc, ◌≤ℤ◌, ◌<ℤ◌, ◌+ℤ◌, ◌-ℤ◌, ℤ, pos, List, [], ◌∷◌, ◌++◌, Option, Some, None, IfSome, All, Bool, true, false, cond, filter, is_none, refl, sym, ap, subst, arith, unsigned_abs, ◌∙◌}
use Rattle.std.proofs.lemmas.Int.{ints}
use Rattle.std.proofs.lemmas.List.Elements.{All-cons, All-filter, All-head, All-nil, All-tail, All-weaker, Contains-append_right, filter_passes}
use Rattle.std.proofs.lemmas.Option.{IfSome_then, same_Some}
use Rattle.std.specs.List.{Contains}
use Rattle.spec_bookings.specs.declared.clash.Clash.{Clash}
use Rattle.spec_series.specs.Numbers.{numbers_from}
use Rattle.spec_slots.proofs.Quarters.{quarter_at, quarter_of, quarters_from, quarters_join}
use Rattle.spec_slots.proofs.Slots.{found_in_front, free_here, free_join, told_here, told_join}
use Rattle.spec_slots.specs.Quarters.{IsQuarterOf, is_quarter, quarters}
use Rattle.spec_slots.specs.Slots.{LiesBefore, IsSlot, IsToldOf, IsTriedOf, first_free, slot_among, tried_of}
use Rattle.spec_slots.specs.declared.slot.Tried.{Tried}

none_found : (s : ℤ) → None ≡ Some s → ⊥
none_found s h = cc

if_some : (o : Option ℤ) (P : ℤ → Type 0) → ((s : ℤ) → o ≡ Some s → P s) → IfSome o P
if_some None P f = tt
if_some (Some s) P f = f s refl

-- Numbers in a row lie between its ends and rise, and so do those of them that pass a test.

record Between (n : ℤ) (k : ℕ) (x : ℤ) : Type 0 where
  low : n ≤ℤ x
  high : x <ℤ (n +ℤ pos k)

between_less : (n : ℤ) (k : ℕ) (x : ℤ) → Between (n +ℤ pos 1) k x → Between n (suc k) x
between_less n k x h = record { low = omega (arith, ints, h.low); high = omega (arith, ints, h.high) }

all_between : (n : ℤ) (k : ℕ) → All (Between n k) (numbers_from n k)
unfolding numbers_from
all_between n zero = All-nil (Between n 0)
all_between n (suc k) =
    All-cons (Between n (suc k)) n (numbers_from (n +ℤ pos 1) k) (record { low = omega (arith, ints); high = omega (arith, ints) })
    (All-weaker (Between (n +ℤ pos 1) k) (Between n (suc k)) (λ x h. between_less n k x h) (numbers_from (n +ℤ pos 1) k) (all_between (n +ℤ pos 1) k))

abbrev Rise : List ℤ → Type 0
Rise [] = Unit {0}
Rise (x ∷ xs) = All (λ y. x <ℤ y) xs × Rise xs

numbers_rise : (n : ℤ) (k : ℕ) → Rise (numbers_from n k)
unfolding numbers_from
numbers_rise n zero = tt
numbers_rise n (suc k) =
    (All-weaker (Between (n +ℤ pos 1) k) (λ y. n <ℤ y) (λ x h. omega (arith, ints, h.low)) (numbers_from (n +ℤ pos 1) k) (all_between (n +ℤ pos 1) k), numbers_rise (n +ℤ pos 1) k)

rise_by : (x : ℤ) (xs : List ℤ) (b : Bool) → All (λ y. x <ℤ y) xs → Rise xs → Rise (cond b (x ∷ xs) xs)
rise_by x xs true h k = (h, k)
rise_by x xs false h k = k

rise_filter : (p : ℤ → Bool) (xs : List ℤ) → Rise xs → Rise (filter p xs)
rise_filter p [] h = tt
rise_filter p (x ∷ xs) h = rise_by x (filter p xs) (p x) (All-filter p (λ y. x <ℤ y) xs h.0) (rise_filter p xs h.1)

quarters_rise : (from to : ℤ) → Rise (quarters from to)
unfolding quarters
quarters_rise from to = rise_filter is_quarter (numbers_from from (unsigned_abs (to -ℤ from))) (numbers_rise from (unsigned_abs (to -ℤ from)))

both : (P Q R : ℤ → Type 0) → ((x : ℤ) → P x → Q x → R x) → (xs : List ℤ) → All P xs → All Q xs → All R xs
both P Q R f [] h k = All-nil R
both P Q R f (x ∷ xs) h k = All-cons R x xs (f x (All-head P x xs h) (All-head Q x xs k)) (both P Q R f xs (All-tail P x xs h) (All-tail Q x xs k))

is_of : (from to x : ℤ) → from ≤ℤ to → Between from (unsigned_abs (to -ℤ from)) x → is_quarter x ≡ true → IsQuarterOf from to x
is_of from to x h b q = record { low = b.low; high = omega (arith, ints, b.high, h); quarter = q }

pub are_quarters : (from to : ℤ) → from ≤ℤ to → All (IsQuarterOf from to) (quarters from to)
unfolding quarters
are_quarters from to h =
    both (Between from (unsigned_abs (to -ℤ from))) (λ x. is_quarter x ≡ true) (IsQuarterOf from to) (λ x b q. is_of from to x h b q) (filter is_quarter (numbers_from from (unsigned_abs (to -ℤ from))))
    (All-filter is_quarter (Between from (unsigned_abs (to -ℤ from))) (numbers_from from (unsigned_abs (to -ℤ from))) (all_between from (unsigned_abs (to -ℤ from)))) (filter_passes is_quarter (numbers_from from (unsigned_abs (to -ℤ from))))

-- What is found is one of them, and free.

found_by : (clash : ℤ → Option Clash) (P : ℤ → Type 0) (x s : ℤ) (xs : List ℤ) (b : Bool) → is_none (clash x) ≡ b → P x → cond b (Some x) (first_free clash xs) ≡ Some s
    → (first_free clash xs ≡ Some s → P s × (is_none (clash s) ≡ true)) → P s × (is_none (clash s) ≡ true)
found_by clash P x s xs true e h is next = let same : x ≡ s = same_Some x s is in subst (λ z. P z × (is_none (clash z) ≡ true)) same (h, e)
found_by clash P x s xs false e h is next = next is

found_is : (clash : ℤ → Option Clash) (P : ℤ → Type 0) (xs : List ℤ) (s : ℤ) → All P xs → first_free clash xs ≡ Some s → P s × (is_none (clash s) ≡ true)
found_is clash P [] s h is = absurd (none_found s is)
found_is clash P (x ∷ xs) s h is = found_by clash P x s xs (is_none (clash x)) refl (All-head P x xs h) is (found_is clash P xs s (All-tail P x xs h))

none_is : {X : Type 0} (o : Option X) → is_none o ≡ true → o ≡ None
none_is None h = refl
none_is (Some x) h = absurd (cc h)

-- What is told.

record Told (clash : ℤ → Option Clash) (P : ℤ → Type 0) (t : Tried) : Type 0 where
  holds : P t.start
  against : clash t.start ≡ Some t.clash

told_by : (clash : ℤ → Option Clash) (P : ℤ → Type 0) (x : ℤ) (xs : List ℤ) (o : Option Clash) → clash x ≡ o → P x → All (Told clash P) (tried_of clash xs) → All (Told clash P) (tried_of clash (x ∷ xs))
told_by clash P x xs None e h rest = rw e (All-nil (Told clash P))
told_by clash P x xs (Some c) e h rest = rw e (All-cons (Told clash P) (record { start = x; clash = c }) (tried_of clash xs) (record { holds = h; against = e }) rest)

all_told : (clash : ℤ → Option Clash) (P : ℤ → Type 0) (xs : List ℤ) → All P xs → All (Told clash P) (tried_of clash xs)
all_told clash P [] h = All-nil (Told clash P)
all_told clash P (x ∷ xs) h = told_by clash P x xs (clash x) refl (All-head P x xs h) (all_told clash P xs (All-tail P x xs h))

-- each is told before what is found
before_by : (clash : ℤ → Option Clash) (s x : ℤ) (xs : List ℤ) (o : Option Clash) → clash x ≡ o → All (λ y. x <ℤ y) xs → first_free clash (x ∷ xs) ≡ Some s
    → (first_free clash xs ≡ Some s → All (λ (t : Tried). t.start <ℤ s) (tried_of clash xs)) → All (λ (t : Tried). t.start <ℤ s) (tried_of clash (x ∷ xs))
before_by clash s x xs None e h is next = rw e (All-nil (λ (t : Tried). t.start <ℤ s))
before_by clash s x xs (Some c) e h is next =
    let found : first_free clash xs ≡ Some s = rw e at is in
    rw e (All-cons (λ (t : Tried). t.start <ℤ s) (record { start = x; clash = c }) (tried_of clash xs) (found_is clash (λ y. x <ℤ y) xs s h found).0 (next found))

all_before : (clash : ℤ → Option Clash) (s : ℤ) (xs : List ℤ) → Rise xs → first_free clash xs ≡ Some s → All (λ (t : Tried). t.start <ℤ s) (tried_of clash xs)
all_before clash s [] rise is = absurd (none_found s is)
all_before clash s (x ∷ xs) rise is = before_by clash s x xs (clash x) refl rise.0 is (all_before clash s xs rise.1)

joined : (clash : ℤ → Option Clash) (from to : ℤ) (ts : List Tried) (start : Option ℤ) → All (Told clash (IsQuarterOf from to)) ts → ((s : ℤ) → start ≡ Some s → All (λ (t : Tried). t.start <ℤ s) ts)
    → All (IsTriedOf clash from to start) ts
joined clash from to [] start h k = All-nil (IsTriedOf clash from to start)
joined clash from to (t ∷ ts) start h k =
    let told = All-head (Told clash (IsQuarterOf from to)) t ts h in
    All-cons (IsTriedOf clash from to start) t ts
    (record { quarter = told.holds; before = if_some start (λ s. t.start <ℤ s) (λ s e. All-head (λ (u : Tried). u.start <ℤ s) t ts (k s e)); against = told.against })
    (joined clash from to ts start (All-tail (Told clash (IsQuarterOf from to)) t ts h) (λ s e. All-tail (λ (u : Tried). u.start <ℤ s) t ts (k s e)))

-- Each earlier quarter is told.

record Around (from to x : ℤ) : Type 0 where
  behind : List ℤ
  is : quarters from to ≡ quarters from x ++ x ∷ behind

around : (from to x : ℤ) → IsQuarterOf from to x → Around from to x
around from to x q =
    let m = quarter_of x q.quarter in
    let high : quarter_at m.0 <ℤ to = subst (λ z. z <ℤ to) m.1 q.high in
    let rest = quarters_from m.0 to high in
    record {
      behind = rest.0;
      is = quarters_join from x to q.low (omega (arith, ints, q.high)) ∙ ap (λ ys. quarters from x ++ ys) (ap (λ z. quarters z to) m.1 ∙ (rest.1 ∙ ap (λ z. z ∷ rest.0) (sym m.1)));
    }

contains_here : (ts us : List Tried) (t : Tried) → Contains (ts ++ t ∷ us) t
contains_here ts us t = Contains-append_right ts (t ∷ us) t (0, omega arith, refl)

-- nothing that was found lies before an earlier quarter
none_before : (clash : ℤ → Option Clash) (from to x : ℤ) (q : IsQuarterOf from to x) (o : Option ℤ) → first_free clash (quarters from x) ≡ o → LiesBefore (first_free clash (quarters from to)) x → first_free clash (quarters from x) ≡ None
none_before clash from to x q None e before = e
none_before clash from to x q (Some s) e before =
    let is : first_free clash (quarters from to) ≡ Some s = rw (around from to x q).is (found_in_front clash (quarters from x) (x ∷ (around from to x q).behind) s e) in
    let low = (found_is clash (IsQuarterOf from x) (quarters from x) s (are_quarters from x q.low) e).0 in
    let high : x <ℤ s = subst (λ o. LiesBefore o x) is before in
    absurd (omega (arith, ints, low.high, high))

told_at : (clash : ℤ → Option Clash) (from to x : ℤ) (q : IsQuarterOf from to x) (o : Option Clash) → clash x ≡ o → LiesBefore (first_free clash (quarters from to)) x → first_free clash (quarters from x) ≡ None
    → IsToldOf (tried_of clash (quarters from to)) x
told_at clash from to x q None e before none =
    let a = around from to x q in
    let is : first_free clash (quarters from to) ≡ Some x = rw a.is (free_join clash (quarters from x) (x ∷ a.behind) none ∙ free_here clash x a.behind e) in
    let high : x <ℤ x = subst (λ o. LiesBefore o x) is before in
    absurd (omega (arith, ints, high))
told_at clash from to x q (Some c) e before none =
    let a = around from to x q in
    let is : tried_of clash (quarters from to) ≡ tried_of clash (quarters from x) ++ record { start = x; clash = c } ∷ tried_of clash a.behind =
    rw a.is (told_join clash (quarters from x) (x ∷ a.behind) none ∙ ap (λ us. tried_of clash (quarters from x) ++ us) (told_here clash x c a.behind e)) in
    record { told = record { start = x; clash = c }; start = refl; contained = subst (λ ts. Contains ts (record { start = x; clash = c })) (sym is) (contains_here _ _ _) }

start_quarter : (clash : ℤ → Option Clash) (from to : ℤ) → from ≤ℤ to → (o : Option ℤ) → first_free clash (quarters from to) ≡ o → IfSome o (λ x. IsQuarterOf from to x × (clash x ≡ None))
start_quarter clash from to h None e = tt
start_quarter clash from to h (Some s) e =
    let f = found_is clash (IsQuarterOf from to) (quarters from to) s (are_quarters from to h) e in
    (f.0, none_is (clash s) f.1)

pub least : (clash : ℤ → Option Clash) (from to : ℤ) → from ≤ℤ to → IsSlot clash from to (slot_among clash (quarters from to))
least clash from to h =
    let s = start_quarter clash from to h (first_free clash (quarters from to)) refl in
    record {
      quarter = IfSome_then (first_free clash (quarters from to)) s (λ x p. p.0);
      free = IfSome_then (first_free clash (quarters from to)) s (λ x p. p.1);
      tried = joined clash from to (tried_of clash (quarters from to)) (first_free clash (quarters from to)) (all_told clash (IsQuarterOf from to) (quarters from to) (are_quarters from to h))
          (λ s e. all_before clash s (quarters from to) (quarters_rise from to) e);
      each = λ x q before. told_at clash from to x q (clash x) refl before (none_before clash from to x q (first_free clash (quarters from x)) refl before);
    }
