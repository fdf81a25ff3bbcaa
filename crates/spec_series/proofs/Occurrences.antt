-- An occurrence is that of a recurrence id of the series, or what an exception gives.
use Rattle.std.proofs.Common.{◌≡◌, ◌∙◌, ◌↔◌, ℕ, zero, suc, ℤ, inl, inr, Bool, true, false, not, List, [], ◌∷◌, slice_get, Option, Some, None, refl, sym, ap}
use Rattle.std.specs.Prelude.{option_map}
use Rattle.std.specs.Ordering.{int_eq}
use Rattle.std.proofs.lemmas.Bool.{and_parts}
use Rattle.std.proofs.lemmas.Bool.Decides.{Decides-int_eq}
use Rattle.std.proofs.lemmas.Option.{same_Some}
use Rattle.spec_series.specs.declared.exception.Exception.{Exception}
use Rattle.spec_series.specs.declared.exception.Span.{Span}
use Rattle.spec_series.specs.declared.occurrence.Occurrence.{Occurrence}
use Rattle.spec_series.specs.declared.series.Series.{Series}
use Rattle.spec_series.specs.Given.{IsReplacement, replacement}
use Rattle.spec_series.specs.Occurrences.{IsOccurrence, IsOfKinds, IsRegular, exception_with, is_rid, occurrence_with, regular}
use Rattle.spec_series.specs.SeriesLimits.{are_distinct, is_named}

by_bool : {Q : Type 0} (b : Bool) → (b ≡ true → Q) → (b ≡ false → Q) → Q
by_bool true f g = f refl
by_bool false f g = g refl

by_option : {A Q : Type 0} (o : Option A) → (o ≡ None → Q) → ((x : A) → o ≡ Some x → Q) → Q
by_option None f g = f refl
by_option (Some x) f g = g x refl

not_is : (b : Bool) → not b ≡ true → b ≡ false
not_is true h = sym h
not_is false h = refl

-- The exception of a recurrence id.

-- an exception names its recurrence id
pub names : (xs : List Exception) (k : ℕ) (x : Exception) (w : ℤ) → slice_get xs k ≡ Some x → x.rid ≡ w → is_named xs w ≡ true
unfolding is_named
names [] k x w h e = cc
names (y ∷ ys) zero x w h e = rw ((Decides-int_eq y.rid w).1 (ap (λ z. z.rid) (same_Some y x h) ∙ e)) refl
names (y ∷ ys) (suc k) x w h e = by_bool (int_eq y.rid w) (λ t. rw t refl) (λ f. rw f (names ys k x w h e))

pub distinct_parts : (x : Exception) (xs : List Exception) → are_distinct (x ∷ xs) ≡ true → (is_named xs x.rid ≡ false) × (are_distinct xs ≡ true)
unfolding are_distinct
distinct_parts x xs h = let z = and_parts (not (is_named xs x.rid)) (are_distinct xs) h in (not_is (is_named xs x.rid) z.0, z.1)

with_at : (xs : List Exception) (rid : ℤ) (x : Exception) → exception_with xs rid ≡ Some x → ((k : ℕ) × (slice_get xs k ≡ Some x)) × (x.rid ≡ rid)
with_at [] rid x h = cc
with_at (y ∷ ys) rid x h = by_bool (int_eq y.rid rid)
    (λ e. let same : y ≡ x = same_Some y x (sym (rw e) ∙ h) in ((0, ap (λ z. Some z) same), ap (λ z. z.rid) (sym same) ∙ (Decides-int_eq y.rid rid).0 e))
    (λ e. let more = with_at ys rid x (sym (rw e) ∙ h) in ((suc more.0.0, more.0.1), more.1))

with_none : (xs : List Exception) (rid : ℤ) → exception_with xs rid ≡ None → is_named xs rid ≡ false
unfolding is_named
with_none [] rid h = refl
with_none (y ∷ ys) rid h = by_bool (int_eq y.rid rid)
    (λ e. let no = rw e at h in cc)
    (λ e. rw e (with_none ys rid (rw e at h)))

none_with : (xs : List Exception) (rid : ℤ) → is_named xs rid ≡ false → exception_with xs rid ≡ None
unfolding is_named
none_with [] rid h = refl
none_with (y ∷ ys) rid h = by_bool (int_eq y.rid rid)
    (λ e. let no = rw e at h in cc)
    (λ e. rw e (none_with ys rid (rw e at h)))

at_with : (xs : List Exception) (k : ℕ) (x : Exception) → are_distinct xs ≡ true → slice_get xs k ≡ Some x → exception_with xs x.rid ≡ Some x
at_with [] k x d h = cc
at_with (y ∷ ys) zero x d h = let same : y ≡ x = same_Some y x h in rw ((Decides-int_eq y.rid x.rid).1 (ap (λ z. z.rid) same)) h
at_with (y ∷ ys) (suc k) x d h =
    let parts = distinct_parts y ys d in
    by_bool (int_eq y.rid x.rid)
    (λ e. let named = names ys k x y.rid h (sym ((Decides-int_eq y.rid x.rid).0 e)) in let free = parts.0 in cc)
    (λ e. rw e (at_with ys k x parts.1 h))

-- The occurrence of a recurrence id.

replaced_parts : (t : Option Span) (rid : ℤ) (o : Occurrence) → option_map (replacement rid) t ≡ Some o
    → (o.rid ≡ rid) × (t ≡ Some (record { start = o.start; length = o.length; occupying = o.occupying }))
replaced_parts None rid o h = cc
replaced_parts (Some t) rid o h =
    let same : replacement rid t ≡ o = same_Some (replacement rid t) o h in
    (ap (λ q. q.rid) (sym same), λ i. Some (record { start = (same i).start; length = (same i).length; occupying = (same i).occupying }))

replaced_is : (s : Series) (rid : ℤ) (x : Exception) (o : Occurrence) → exception_with s.exceptions rid ≡ Some x → option_map (replacement rid) x.replaced ≡ Some o → IsOfKinds s o × (o.rid ≡ rid)
replaced_is s rid x o e h =
    let at = with_at s.exceptions rid x e in
    let parts = replaced_parts x.replaced rid o h in
    (inr (at.0.0, (x, (at.0.1, λ i. record { rid = (at.1 ∙ sym parts.0) i; replaced = parts.1 i }))), parts.0)

regular_is : (s : Series) (rid : ℤ) (o : Occurrence) → is_named s.exceptions rid ≡ false → is_rid s rid ≡ true → regular s rid ≡ o → IsOfKinds s o × (o.rid ≡ rid)
regular_is s rid o free is same =
    let e : o.rid ≡ rid = ap (λ q. q.rid) (sym same) in (
      inl (record {
        rid = rw e is;
        free = rw e free;
        start = ap (λ q. q.start) (sym same) ∙ sym e;
        length = ap (λ q. q.length) (sym same);
        occupying = ap (λ q. q.occupying) (sym same);
      }),
      e,
    )

with_kinds : (s : Series) (rid : ℤ) (o : Occurrence) → occurrence_with s rid ≡ Some o → IsOfKinds s o × (o.rid ≡ rid)
unfolding occurrence_with
with_kinds s rid o h = by_option (exception_with s.exceptions rid)
    (λ e. by_bool (is_rid s rid)
    (λ is. regular_is s rid o (with_none s.exceptions rid e) is (same_Some (regular s rid) o (rw (e, is) at h)))
    (λ not. let no = rw (e, not) at h in cc))
    (λ x e. replaced_is s rid x o e (rw e at h))

pub regular_occurs : (s : Series) (o : Occurrence) → IsRegular s o → IsOccurrence s o
unfolding occurrence_with
regular_occurs s o own =
    rw (none_with s.exceptions o.rid own.free, own.rid) (λ i. Some (record { rid = o.rid; start = sym own.start i; length = sym own.length i; occupying = sym own.occupying i }))

pub replaced_occurs : (s : Series) (k : ℕ) (x : Exception) (o : Occurrence) → slice_get s.exceptions k ≡ Some x → IsReplacement x o → IsOccurrence s o
unfolding occurrence_with
replaced_occurs s k x o at is =
    let here : exception_with s.exceptions o.rid ≡ Some x = ap (exception_with s.exceptions) (sym (ap (λ (y : Exception). y.rid) is)) ∙ at_with s.exceptions k x s.exceptions_distinct at in
    let replaced : x.replaced ≡ Some (record { start = o.start; length = o.length; occupying = o.occupying }) = ap (λ (y : Exception). y.replaced) is in
    rw (here, replaced) refl

pub of_kinds : (s : Series) (o : Occurrence) → IsOfKinds s o → IsOccurrence s o
of_kinds s o (inl own) = regular_occurs s o own
of_kinds s o (inr put) = replaced_occurs s put.0 put.1.0 o put.1.1.0 put.1.1.1

pub kinds : (s : Series) (o : Occurrence) → IsOccurrence s o → IsOfKinds s o
kinds s o h = (with_kinds s o.rid o h).0

-- the occurrence of a recurrence id has it
pub with_rid : (s : Series) (rid : ℤ) (o : Occurrence) → occurrence_with s rid ≡ Some o → IsOccurrence s o × (o.rid ≡ rid)
with_rid s rid o h = let x = with_kinds s rid o h in (of_kinds s o x.0, x.1)

-- the law of the two kinds
pub both_kinds : (s : Series) (o : Occurrence) → IsOccurrence s o ↔ IsOfKinds s o
both_kinds s o = (kinds s o, of_kinds s o)
