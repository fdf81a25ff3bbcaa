-- The first shared second, booking by booking, and then of the series with itself.
use Rattle.std.proofs.Common.{◌≡◌, ℕ, zero, suc, ℤ, Bool, true, false, ◌&&◌, ◌||◌, List, [], ◌∷◌, ◌++◌, Option, Some, None, IfSome, IfNone, refl, sym, ap, ◌∙◌, arith, ◌⊎◌, inl, inr, option_map, int_lt, ◌≤ℤ◌, ◌<ℤ◌, ◌<◌, ◌^◌, unsigned_abs, slice_get, if◌then◌else◌}
use Rattle.std.proofs.lemmas.Int.{ints}
use Rattle.std.proofs.lemmas.Option.{same_Some}
use Rattle.std.proofs.lemmas.Bool.{and_from, or_cases, and_parts, or_left, or_right, false_from_ne_true, or_parts}
use Rattle.std.proofs.Math.Bool.{or-false, or_assoc, or_comm}
use Rattle.spec_time.specs.Walls.{day_of_wall, second_of_wall}
use Rattle.spec_series.specs.declared.series.Series.{Series}
use Rattle.spec_series.specs.Shared.{IsShared, covers, covers_twice}
use Rattle.rule_expand.specs.Least.{IsLeast, IsLeastOf}
use Rattle.rule_expand.proofs.Least.{same-least}
use Rattle.residue_clash.proofs.Covering.{covers_is, covers_twice_is}
use Rattle.residue_clash.proofs.FirstSecond.{first_is}
use Rattle.spec_bookings.specs.declared.booking.Booking.{Booking}
use Rattle.spec_bookings.specs.Clashes.{IsClash, any_covers, is_clash, IsClear, first_covering, clash_at, second_of, first_clash}
use Rattle.resource_book.specs.declared.check.SharedSecond.{SharedSecond}
use Rattle.resource_book.specs.SharedSeconds.{is_shared_with, IsEarliest, IsEarliestOf, earlier_of, clash_of}
use Rattle.civil_days.proofs.WallLemmas.{wall_parts}
use Rattle.spec_bookings.proofs.Tables.{by_test}

-- tables
shared_out : (a b s : Bool) → ((a || b) && s) ≡ ((a && s) || (b && s))
shared_out true b true = refl
shared_out true true false = refl
shared_out true false false = refl
shared_out false b s = refl

-- one booking more
any_push : (bs : List Booking) (b : Booking) (x : ℤ) → any_covers (bs ++ b ∷ []) x ≡ (any_covers bs x || covers b.series x)
any_push [] b x = or-false (covers b.series x)
any_push (c ∷ cs) b x = ap (λ (t : Bool). covers c.series x || t) (any_push cs b x) ∙ sym (or_assoc (covers c.series x) (any_covers cs x) (covers b.series x))

shared_push : (bs : List Booking) (s : Series) (b : Booking) (x : ℤ) → is_shared_with (bs ++ b ∷ []) s x ≡ (is_shared_with bs s x || (covers b.series x && covers s x))
shared_push bs s b x = ap (λ (t : Bool). t && covers s x) (any_push bs b x) ∙ shared_out (any_covers bs x) (covers b.series x) (covers s x)

first_kept : (bs : List Booking) (b : Booking) (x : ℤ) → any_covers bs x ≡ true → first_covering (bs ++ b ∷ []) x ≡ first_covering bs x
first_kept [] b x h = absurd (cc h)
first_kept (c ∷ cs) b x h =
    by_test (λ o. (if covers c.series x then Some c.number else first_covering (cs ++ b ∷ []) x) ≡ o) (covers c.series x) (Some c.number) (first_covering cs x)
    (λ e. rw e refl)
    (λ e. rw e (first_kept cs b x (rw e at h)))

first_new : (bs : List Booking) (b : Booking) (x : ℤ) → any_covers bs x ≡ false → covers b.series x ≡ true → first_covering (bs ++ b ∷ []) x ≡ Some b.number
first_new [] b x h e = rw e refl
first_new (c ∷ cs) b x h e =
    let p = or_parts (covers c.series x) (any_covers cs x) h in
    rw (p.0) (first_new cs b x p.1 e)

first_none : (bs : List Booking) (x : ℤ) → any_covers bs x ≡ false → first_covering bs x ≡ None
first_none [] x h = refl
first_none (b ∷ bs) x h =
    let p = or_parts (covers b.series x) (any_covers bs x) h in
    rw (p.0) (first_none bs x p.1)

-- none of the bookings covers x, where the series covers it and shares it with none
none_covers : (bs : List Booking) (s : Series) (x : ℤ) → covers s x ≡ true → (is_shared_with bs s x ≡ true → ⊥) → any_covers bs x ≡ false
none_covers bs s x e f = false_from_ne_true (any_covers bs x) (λ a. f (rw (a, e) refl))

-- the earlier of a second shared with some bookings and a second of another test: the first of the two tests together
module _ (bs cs : List Booking) (p q both : ℤ → Bool) (n : Option ℕ)
    (split : (x : ℤ) → both x ≡ (p x || q x))
    (old_first : (x : ℤ) → p x ≡ true → first_covering cs x ≡ first_covering bs x)
    (new_first : (x : ℤ) → q x ≡ true → (p x ≡ true → ⊥) → n ≡ first_covering cs x) where
  either : (x : ℤ) → both x ≡ true → (p x ≡ true) ⊎ (q x ≡ true)
  either x m = or_cases (p x) (q x) (sym (split x) ∙ m)

  by_old : (m : SharedSecond) → IsEarliest p bs m → ((x : ℤ) → q x ≡ true → m.at ≤ℤ x) → IsEarliest both cs m
  by_old m h g = record {
    least = record {
      holds = split m.at ∙ or_left (p m.at) (q m.at) h.least.holds;
      least = λ x e. elim (either x e) [ inl l ↦ h.least.least x l | inr r ↦ g x r ];
    };
    first = h.first ∙ sym (old_first m.at h.least.holds);
    near = h.near;
  }

  by_new : (x : ℤ) → IsLeast (λ y. q y ≡ true) x → unsigned_abs x < 2 ^ 57 → ((y : ℤ) → p y ≡ true → x <ℤ y) → IsEarliest both cs (record { with = n; at = x })
  by_new x h near g = record {
    least = record {
      holds = split x ∙ or_right (p x) (q x) h.holds;
      least = λ y e. elim (either y e) [ inl l ↦ let f = g y l in omega (arith, ints, f) | inr r ↦ h.least y r ];
    };
    first = new_first x h.holds (λ e. let f = g x e in omega (arith, ints, f));
    near = near;
  }

  pub earlier_first : (best : Option SharedSecond) (found : Option ℤ) → IsEarliestOf p bs best → IsLeastOf (λ x. q x ≡ true) found → IfSome found (λ x. unsigned_abs x < 2 ^ 57)
      → IsEarliestOf both cs (earlier_of best found n)
  earlier_first None None h g near = λ x m. elim (either x m) [ inl l ↦ h x l | inr r ↦ g x r ]
  earlier_first (Some m) None h g near = by_old m h (λ x e. absurd (g x e))
  earlier_first None (Some x) h g near = by_new x g near (λ y e. absurd (h y e))
  earlier_first (Some m) (Some x) h g near =
      by_test (IsEarliest both cs) (int_lt x m.at) (record { with = n; at = x }) m
      (λ below.
      let lt : x <ℤ m.at = omega (arith, ints, below) in
      by_new x g near (λ y e. let f = h.least.least y e in omega (arith, ints, f, lt)))
      (λ above.
      let le : m.at ≤ℤ x = omega (arith, ints, above) in
      by_old m h (λ y e. let f = g.least y e in omega (arith, ints, f, le)))

pub nothing_shared : (s : Series) → IsEarliestOf (is_shared_with [] s) [] None
nothing_shared s = λ x h. absurd (cc h)

pub one_more : (bs : List Booking) (s : Series) (b : Booking) (best : Option SharedSecond) (found : Option ℤ) → IsEarliestOf (is_shared_with bs s) bs best
    → IsLeastOf (λ x. (covers b.series x && covers s x) ≡ true) found → IfSome found (λ x. unsigned_abs x < 2 ^ 57)
    → IsEarliestOf (is_shared_with (bs ++ b ∷ []) s) (bs ++ b ∷ []) (earlier_of best found (Some b.number))
one_more bs s b best found h g near =
    earlier_first bs (bs ++ b ∷ []) (is_shared_with bs s) (λ x. covers b.series x && covers s x) (is_shared_with (bs ++ b ∷ []) s) (Some b.number)
    (shared_push bs s b)
    (λ x e. first_kept bs b x (and_parts (any_covers bs x) (covers s x) e).0)
    (λ x e f. let c = and_parts (covers b.series x) (covers s x) e in sym (first_new bs b x (none_covers bs s x c.1 f) c.0))
    best found h g near

-- what covers twice covers
covers_from_twice : (s : Series) (x : ℤ) → covers_twice s x ≡ true → covers s x ≡ true
covers_from_twice s x h = let m = (covers_twice_is s x).0 h in (covers_is s x).1 (m.0, (m.2, m.5))

and_self : (bs : List Booking) (s : Series) (best : Option SharedSecond) (found : Option ℤ) → IsEarliestOf (is_shared_with bs s) bs best
    → IsLeastOf (λ x. covers_twice s x ≡ true) found → IfSome found (λ x. unsigned_abs x < 2 ^ 57) → IsEarliestOf (is_clash bs s) bs (earlier_of best found None)
and_self bs s best found h g near =
    earlier_first bs bs (is_shared_with bs s) (covers_twice s) (is_clash bs s) None
    (λ x. or_comm (covers_twice s x) (is_shared_with bs s x))
    (λ x e. refl)
    (λ x e f. sym (first_none bs x (none_covers bs s x (covers_from_twice s x e) f)))
    best found h g near

-- the facts and the tests
covered_to : (bs : List Booking) (x : ℤ) → any_covers bs x ≡ true → (k : ℕ) × (b : Booking) × (slice_get bs k ≡ Some b) × (covers b.series x ≡ true)
covered_to [] x h = absurd (cc h)
covered_to (b ∷ bs) x h =
    elim (or_cases (covers b.series x) (any_covers bs x) h) [
      | inl l ↦ (0, b, refl, l)
      | inr r ↦ let m = covered_to bs x r in (suc m.0, m.1, m.2, m.3)
    ]

to_covered : (bs : List Booking) (x : ℤ) (k : ℕ) (b : Booking) → slice_get bs k ≡ Some b → covers b.series x ≡ true → any_covers bs x ≡ true
to_covered [] x k b e h = absurd (cc e)
to_covered (c ∷ cs) x zero b e h = or_left (covers c.series x) (any_covers cs x) (ap (λ (d : Booking). covers d.series x) (same_Some c b e) ∙ h)
to_covered (c ∷ cs) x (suc k) b e h = or_right (covers c.series x) (any_covers cs x) (to_covered cs x k b e h)

shared_to : (a b : Series) (x : ℤ) → covers a x ≡ true → covers b x ≡ true → IsShared a b x
shared_to a b x h g =
    let p = (covers_is a x).0 h in
    let q = (covers_is b x).0 g in
    (p.0, q.0, p.1.0, q.1.0, p.1.1, q.1.1)

pub clash_to : (bs : List Booking) (s : Series) (x : ℤ) → is_clash bs s x ≡ true → IsClash bs s x
clash_to bs s x h =
    elim (or_cases (covers_twice s x) (is_shared_with bs s x) h) [
      | inl l ↦ inl ((covers_twice_is s x).0 l)
      | inr r ↦
          let p = and_parts (any_covers bs x) (covers s x) r in
          let m = covered_to bs x p.0 in
          inr (m.0, m.1, m.2, shared_to m.1.series s x m.3 p.1)
    ]

pub to_clash : (bs : List Booking) (s : Series) (x : ℤ) → IsClash bs s x → is_clash bs s x ≡ true
to_clash bs s x (inl h) = or_left (covers_twice s x) (is_shared_with bs s x) ((covers_twice_is s x).1 h)
to_clash bs s x (inr (k, b, e, m)) =
    or_right (covers_twice s x) (is_shared_with bs s x)
    (and_from (any_covers bs x) (covers s x) (to_covered bs x k b e ((covers_is b.series x).1 (m.0, (m.2, m.4)))) ((covers_is s x).1 (m.1, (m.3, m.5))))

-- the clash of the first shared second
least_at : (bs : List Booking) (s : Series) (o : Option SharedSecond) → IsEarliestOf (is_clash bs s) bs o → IsLeastOf (λ x. is_clash bs s x ≡ true) (option_map (λ m. m.at) o)
least_at bs s None h = h
least_at bs s (Some m) h = h.least

near_at : (bs : List Booking) (s : Series) (o : Option SharedSecond) → IsEarliestOf (is_clash bs s) bs o → IfSome (option_map (λ m. m.at) o) (λ x. unsigned_abs x < 2 ^ 57)
near_at bs s None h = tt
near_at bs s (Some m) h = h.near

clash_same : (bs : List Booking) (s : Series) (o : Option SharedSecond) → IsEarliestOf (is_clash bs s) bs o → option_map clash_of o ≡ option_map (clash_at bs) (option_map (λ m. m.at) o)
clash_same bs s None h = refl
clash_same bs s (Some m) h = ap (λ (n : Option ℕ). Some (record { with = n; day = day_of_wall m.at; second = second_of_wall m.at })) h.first

second_same : (o : Option SharedSecond) → option_map second_of (option_map clash_of o) ≡ option_map (λ m. m.at) o
second_same None = refl
second_same (Some m) = ap Some (wall_parts m.at)

clear_of : (bs : List Booking) (s : Series) (o : Option SharedSecond) → IsEarliestOf (is_clash bs s) bs o → IfNone (option_map clash_of o) (IsClear bs s)
clear_of bs s None h = λ x. false_from_ne_true (is_clash bs s x) (h x)
clear_of bs s (Some m) h = tt

module _ (bs : List Booking) (s : Series) (best : Option SharedSecond) (found : Option ℤ) (h : IsEarliestOf (is_shared_with bs s) bs best)
    (g : IsLeastOf (λ x. covers_twice s x ≡ true) found) (near : IfSome found (λ x. unsigned_abs x < 2 ^ 57)) where
  pub exact_clash : option_map clash_of (earlier_of best found None) ≡ first_clash bs s
  exact_clash =
      let f = and_self bs s best found h g near in
      let o = earlier_of best found None in
      clash_same bs s o f ∙ ap (option_map (clash_at bs)) (first_is (is_clash bs s) (option_map (λ m. m.at) o) (least_at bs s o f) (near_at bs s o f))

  pub clear_clash : IfNone (option_map clash_of (earlier_of best found None)) (IsClear bs s)
  clear_clash = clear_of bs s (earlier_of best found None) (and_self bs s best found h g near)

  pub least_clash : IsLeastOf (IsClash bs s) (option_map second_of (option_map clash_of (earlier_of best found None)))
  least_clash =
      let f = and_self bs s best found h g near in
      let o = earlier_of best found None in
      rw (second_same o)
      (same-least (λ x. is_clash bs s x ≡ true) (IsClash bs s) (option_map (λ m. m.at) o) (clash_to bs s) (to_clash bs s) (least_at bs s o f))
