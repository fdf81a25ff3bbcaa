-- The list of the occurrences up to a point.
use Rattle.std.proofs.Common.{◌≡◌, ℕ, zero, suc, ◌⊎◌, inl, inr, Bool, true, false, refl, sym, ap, ◌∙◌, arith, ℤ, ◌<ℤ◌, Option, Some, None, List, [], ◌∷◌, ◌++◌, length, slice_get}
use Rattle.std.proofs.lemmas.Int.{by_lt_z}
use Rattle.std.proofs.lemmas.Option.{same_Some, slice_get_within}
use Rattle.jiff_core.proofs.SignedLemmas.{signed_arith}
use Rattle.spec_series.specs.declared.occurrence.Occurrence.{Occurrence}
use Rattle.occurrence_windows.specs.Listing.{IsAfter, IsListOf}
use Rattle.occurrence_windows.proofs.Walking.{after_trans, after_by, after_cases, after_self, sooner_by}
use Rattle.occurrence_windows.proofs.Overlapping.{AreSingle}
use Rattle.spec_series.specs.Given.{is_past, is_after, is_sooner, IsFirstOf}
use Rattle.rule_expand.proofs.Places.{is_late, late_is}
use Rattle.rule_expand.proofs.Sets.{not_true}

abbrev pub UpTo : (Occurrence → Type 0) → ℤ → Option ℤ → Occurrence → Type 0
UpTo P here seen o = P o × (is_after here seen o.start o.rid ≡ false)

pub by_bool : {Q : Type 0} (b : Bool) → (b ≡ true → Q) → (b ≡ false → Q) → Q
by_bool true f g = f refl
by_bool false f g = g refl

pub pushed_cases : {A : Type 0} (xs : List A) (x y : A) (k : ℕ) → slice_get (xs ++ x ∷ []) k ≡ Some y → (slice_get xs k ≡ Some y) ⊎ ((k ≡ length xs) × (y ≡ x))
pushed_cases [] x y zero h = inr (refl, sym (same_Some x y h))
pushed_cases [] x y (suc k) h = cc
pushed_cases (z ∷ xs) x y zero h = inl h
pushed_cases (z ∷ xs) x y (suc k) h = elim (pushed_cases xs x y k h) [ inl a ↦ inl a | inr b ↦ inr (ap (λ n. suc n) b.0, b.1) ]

pub pushed_left : {A : Type 0} (xs : List A) (x y : A) (k : ℕ) → slice_get xs k ≡ Some y → slice_get (xs ++ x ∷ []) k ≡ Some y
pushed_left [] x y k h = cc
pushed_left (z ∷ xs) x y zero h = h
pushed_left (z ∷ xs) x y (suc k) h = pushed_left xs x y k h

pub pushed_last : {A : Type 0} (xs : List A) (x : A) → slice_get (xs ++ x ∷ []) (length xs) ≡ Some x
pushed_last [] x = refl
pushed_last (z ∷ xs) x = pushed_last xs x

-- neither sooner nor after
same_place : (x o : Occurrence) → is_sooner o x ≡ false → is_after x.start (Some x.rid) o.start o.rid ≡ false → (o.start ≡ x.start) × (o.rid ≡ x.rid)
same_place x o h k =
    let not_sooner : ((o.start <ℤ x.start) ⊎ ((o.start ≡ x.start) × (o.rid <ℤ x.rid))) → ⊥ = λ e. let y = sooner_by o x e in cc in
    let not_after : ((x.start <ℤ o.start) ⊎ ((o.start ≡ x.start) × (is_past (Some x.rid) o.rid ≡ true))) → ⊥ = λ e. let y = after_by x.start (Some x.rid) o.start o.rid e in cc in
    let e : o.start ≡ x.start = by_lt_z o.start x.start (λ lt. absurd (not_sooner (inl lt))) (λ ge. by_lt_z x.start o.start (λ lt. absurd (not_after (inl lt))) (λ le. omega (arith, signed_arith))) in
    (e, by_lt_z o.rid x.rid (λ lt. absurd (not_sooner (inr (e, lt)))) (λ ge. by_lt_z x.rid o.rid (λ lt. absurd (not_after (inr (e, is_late x.rid o.rid lt)))) (λ le. omega (arith, signed_arith))))

past_below : (seen : Option ℤ) (r s : ℤ) → is_past seen r ≡ false → is_past seen s ≡ true → r <ℤ s
past_below None r s h k = cc
past_below (Some p) r s h k = let x = late_is p s k in by_lt_z p r (λ lt. let y = is_late p r lt in cc) (λ le. omega (arith, signed_arith))

-- what isn't after a point is sooner than what is
before_after : (here : ℤ) (seen : Option ℤ) (a x : Occurrence) → is_after here seen a.start a.rid ≡ false → is_after here seen x.start x.rid ≡ true → is_sooner a x ≡ true
before_after here seen a x h k =
    let not_after : ((here <ℤ a.start) ⊎ ((a.start ≡ here) × (is_past seen a.rid ≡ true))) → ⊥ = λ e. let y = after_by here seen a.start a.rid e in cc in
    sooner_by a x (by_lt_z here a.start (λ lt. absurd (not_after (inl lt))) (λ ge. elim (after_cases here seen x.start x.rid k) [
      | inl lt ↦ inl (omega (arith, signed_arith, lt, ge))
      | inr e ↦ by_lt_z a.start here
          (λ lt. inl (omega (arith, signed_arith, lt, e.0)))
          (λ le. let same : a.start ≡ here = omega (arith, signed_arith) in
          inr (same ∙ sym e.0, past_below seen a.rid x.rid (not_true (is_past seen a.rid) (λ t. not_after (inr (same, t)))) e.1))
    ]))

no_item : {A : Type 0} (k : ℕ) (x : A) → slice_get {X = A} [] k ≡ Some x → ⊥
no_item k x h = cc

pub list_begun : (P : Occurrence → Type 0) (low : ℤ) → ((o : Occurrence) → P o → is_after low None o.start o.rid ≡ true) → IsListOf (UpTo P low None) []
list_begun P low all = record {
  only = λ k o h. absurd (no_item k o h);
  all = λ o m. let x = all o m.0 in let y = m.1 in cc;
  ordered = λ j k a b lt h g. absurd (no_item j a h);
}

pub list_ended : (P : Occurrence → Type 0) (here : ℤ) (seen : Option ℤ) (os : List Occurrence) → IsListOf (UpTo P here seen) os → IsFirstOf (IsAfter P here seen) None → IsListOf P os
list_ended P here seen os old none = record {
  only = λ k o h. (old.only k o h).0;
  all = λ o m. by_bool (is_after here seen o.start o.rid) (λ t. absurd (none o (m, t))) (λ f. old.all o (m, f));
  ordered = old.ordered;
}

pub list_more : (P : Occurrence → Type 0) (here : ℤ) (seen : Option ℤ) (os : List Occurrence) (x : Occurrence) → AreSingle P → IsListOf (UpTo P here seen) os → IsFirstOf (IsAfter P here seen) (Some x)
    → IsListOf (UpTo P x.start (Some x.rid)) (os ++ x ∷ [])
list_more P here seen os x single old first =
    let itself : is_after x.start (Some x.rid) x.start x.rid ≡ false = not_true (is_after x.start (Some x.rid) x.start x.rid) (after_self x.start x.rid) in
    record {
      only = λ k o h. elim (pushed_cases os x o k h) [
        | inl a ↦ let u = old.only k o a in (u.0, not_true (is_after x.start (Some x.rid) o.start o.rid) (λ t. let y = after_trans here seen x.start x.rid o.start o.rid first.0.1 t in let z = u.1 in cc))
        | inr b ↦ rw b.1 (first.0.0, itself)
      ];
      all = λ o m. by_bool (is_after here seen o.start o.rid)
          (λ t. let place = same_place x o (first.1 o (m.0, t)) m.1 in
          let same = single o x m.0 first.0.0 place.0 place.1 in
          (length os, rw same (pushed_last os x)))
          (λ f. let at = old.all o (m.0, f) in (at.0, pushed_left os x o at.0 at.1));
      ordered = λ j k a b lt h g. elim (pushed_cases os x b k g) [
        | inl late ↦ elim (pushed_cases os x a j h) [
          | inl early ↦ old.ordered j k a b lt early late
          | inr last ↦ let w = slice_get_within os k b late in absurd (omega (arith, last.0, w, lt))
        ]
        | inr end ↦ elim (pushed_cases os x a j h) [
          | inl early ↦ rw end.1 (before_after here seen a x (old.only j a early).1 first.0.1)
          | inr last ↦ absurd (omega (arith, last.0, end.0, lt))
        ]
      ];
    }
