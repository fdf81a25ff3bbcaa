-- What occurrences of a series keep: there is one of a start and a recurrence id, and how long they last.
use Rattle.std.proofs.Common.{◌≡◌, ◌∙◌, ℕ, zero, suc, ◌+◌, ◌≤◌, ◌<◌, ℤ, inl, inr, Bool, true, false, nat_le, List, [], ◌∷◌, length, slice_get, Option, Some, None, refl, sym, ap, arith}
use Rattle.std.proofs.lemmas.Bool.Decides.{nat_tests}
use Rattle.std.proofs.lemmas.Option.{same_Some, slice_get_within}
use Rattle.jiff_core.proofs.SignedLemmas.{signed_arith}
use Rattle.jiff_core.specs.Calendar.{IsWithin}
use Rattle.jiff_tz.specs.declared.posix.TimeZone.{TimeZone}
use Rattle.jiff_tz.specs.PosixText.{tz_view}
use Rattle.spec_events.specs.Values.{is_showing}
use Rattle.spec_series.specs.declared.exception.Exception.{Exception}
use Rattle.spec_series.specs.declared.exception.Span.{Span}
use Rattle.spec_series.specs.declared.occurrence.Occurrence.{Occurrence}
use Rattle.spec_series.specs.declared.series.Series.{Series}
use Rattle.spec_series.proofs.Occurrences.{kinds, names}
use Rattle.spec_series.specs.Occurrences.{IsOccurrence, occurrence_with}
use Rattle.spec_series.specs.Given.{IsReplacement}
use Rattle.spec_series.specs.SeriesLimits.{are_short, is_span_short, wall_seconds}
use Rattle.spec_time.specs.declared.length.Length.{Length}
use Rattle.spec_windows.specs.Clocks.{instant_in}
use Rattle.occurrence_windows.specs.Bounds.{lasts_up_to}
use Rattle.occurrence_windows.proofs.Overlapping.{AreInstants, AreSingle, IsShowing}
use Rattle.rule_expand.proofs.Least.{by_lt}
use Rattle.rule_expand.proofs.Places.{and_both}
use Rattle.rule_expand.proofs.Regular.{named_near}
use Rattle.rule_expand.proofs.Sets.{int_le_is}
use Rattle.zone_instants.proofs.Bounds.{instant_near, rule_near}
use Rattle.zone_instants.proofs.Readings.{instant-none}

pub rid_of : (x : Exception) (o : Occurrence) → IsReplacement x o → x.rid ≡ o.rid
rid_of x o h = ap (λ y. y.rid) h

pub replaced_of : (x : Exception) (o : Occurrence) → IsReplacement x o → x.replaced ≡ Some (record { start = o.start; length = o.length; occupying = o.occupying })
replaced_of x o h = ap (λ y. y.replaced) h

pub single : (s : Series) → AreSingle (IsOccurrence s)
single s a b m n e f = same_Some a b (sym m ∙ ap (occurrence_with s) f ∙ n)

pub rids_near : (s : Series) (o : Occurrence) → IsOccurrence s o → IsWithin 400000000000 o.start → IsWithin 400000000000 o.rid
rids_near s o m h = elim (kinds s o m) [
  | inl own ↦ let e = own.start in (omega (arith, signed_arith, h, e), omega (arith, signed_arith, h, e))
  | inr put ↦ named_near s.exceptions s.exceptions_in o.rid (names s.exceptions put.0 put.1.0 o.rid put.1.1.0 (rid_of put.1.0 o put.1.1.1))
]

lasts_is : (n : ℕ) (l : Length) → nat_le (wall_seconds l) n ≡ true → wall_seconds l ≤ n
lasts_is n l h = grind (arith, nat_tests)

-- a longest length is one of all occurrences
pub longest_lasts : (s : Series) (n : ℕ) → wall_seconds s.length ≤ n → ((k : ℕ) (x : Exception) → slice_get s.exceptions k ≡ Some x → lasts_up_to n x.replaced ≡ true)
    → (o : Occurrence) → IsOccurrence s o → wall_seconds o.length ≤ n
longest_lasts s n own all o m = elim (kinds s o m) [
  | inl x ↦ let e = ap wall_seconds x.length in omega (arith, own, e)
  | inr put ↦ let h = all put.0 put.1.0 put.1.1.0 in
      let k = rw (replaced_of put.1.0 o put.1.1.1) at h in
      lasts_is n o.length k
]

short_lasts : (o : Option Span) → is_span_short o ≡ true → lasts_up_to 31622400 o ≡ true
short_lasts None h = refl
short_lasts (Some s) h = h

lasts_short : (o : Option Span) → lasts_up_to 31622400 o ≡ true → is_span_short o ≡ true
lasts_short None h = refl
lasts_short (Some s) h = h

all_short : (xs : List Exception) (k : ℕ) (x : Exception) → are_short xs ≡ true → slice_get xs k ≡ Some x → lasts_up_to 31622400 x.replaced ≡ true
all_short [] k x h g = cc
all_short (y ∷ ys) zero x h g = let same : y ≡ x = cc in short_lasts x.replaced (ap (λ z. is_span_short z.replaced) (sym same) ∙ (and_both (is_span_short y.replaced) _ h).0)
all_short (y ∷ ys) (suc k) x h g = all_short ys k x (and_both (is_span_short y.replaced) _ h).1 g

pub lengths : (s : Series) (o : Occurrence) → IsOccurrence s o → wall_seconds o.length ≤ 31622400
lengths s o m = longest_lasts s 31622400 s.length_in (λ k x g. all_short s.exceptions k x s.exceptions_short g) o m

up_to_more : (n m : ℕ) (o : Option Span) → n ≤ m → lasts_up_to n o ≡ true → lasts_up_to m o ≡ true
up_to_more n m None le h = refl
up_to_more n m (Some s) le h = grind (arith, nat_tests)

-- a step of the loop over the exceptions
pub lasts_more : (xs : List Exception) (i n m : ℕ) (d : Exception) → n ≤ m → slice_get xs i ≡ Some d → lasts_up_to m d.replaced ≡ true
    → ((k : ℕ) (x : Exception) → k < i → slice_get xs k ≡ Some x → lasts_up_to n x.replaced ≡ true)
    → (k : ℕ) (x : Exception) → k < i + 1 → slice_get xs k ≡ Some x → lasts_up_to m x.replaced ≡ true
lasts_more xs i n m d le at here old k x lt e = by_lt k i
    (λ below. up_to_more n m x.replaced le (old k x below e))
    (λ above. let same : k ≡ i = omega (arith, above, lt) in
    let e2 = rw same at e in
    let is : d ≡ x = cc in
    rw is at here)

pub lasts_all : (xs : List Exception) (i n : ℕ) → length xs ≤ i → ((k : ℕ) (x : Exception) → k < i → slice_get xs k ≡ Some x → lasts_up_to n x.replaced ≡ true)
    → (k : ℕ) (x : Exception) → slice_get xs k ≡ Some x → lasts_up_to n x.replaced ≡ true
lasts_all xs i n le old k x e = let w = slice_get_within xs k x e in old k x (omega (arith, w, le)) e

pub short_at : (xs : List Exception) (i : ℕ) (x : Exception) → slice_get xs i ≡ Some x → are_short xs ≡ true → is_span_short x.replaced ≡ true
short_at xs i x g h = lasts_short x.replaced (all_short xs i x h g)

pub showing_is : (w : ℤ) → is_showing w ≡ true → IsShowing w
showing_is w h = let x = and_both _ _ h in (int_le_is _ w x.0, int_le_is w _ x.1)

by_bool : {Q : Type 0} (b : Bool) → (b ≡ true → Q) → (b ≡ false → Q) → Q
by_bool true f g = f refl
by_bool false f g = g refl

-- the instants of a rule
pub rule_instants : (tz : TimeZone) → AreInstants (instant_in (tz_view tz))
rule_instants tz = record {
  showing = λ w t e. by_bool (is_showing w) (λ h. showing_is w h) (λ h. let x = instant-none (tz_view tz) w h in cc);
  near = λ w t e. instant_near (tz_view tz) w t (rule_near tz) e;
}
