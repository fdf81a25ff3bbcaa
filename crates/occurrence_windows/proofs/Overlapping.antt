-- Occurrences that overlap a window.
use Rattle.std.proofs.Common.{◌≡◌, ℕ, ◌*◌, ◌≤◌, inl, inr, Bool, true, false, refl, sym, ap, arith, ℤ, pos, ◌≤ℤ◌, ◌+ℤ◌, ◌-ℤ◌, int_lt, Option, Some, None, IsTrue}
use Rattle.std.specs.Prelude.{option_map, is_some}
use Rattle.std.specs.Option.{option_map_or}
use Rattle.std.proofs.lemmas.Int.{by_lt_z}
use Rattle.jiff_core.proofs.SignedLemmas.{signed_arith}
use Rattle.jiff_core.specs.Calendar.{IsWithin}
use Rattle.spec_events.specs.declared.limits.TheConstants.{FIRST_START, LAST_START}
use Rattle.spec_series.specs.declared.occurrence.Occurrence.{Occurrence}
use Rattle.spec_series.specs.declared.series.Series.{Series}
use Rattle.spec_series.specs.Occurrences.{IsOccurrence}
use Rattle.spec_series.specs.SeriesLimits.{wall_seconds}
use Rattle.spec_windows.specs.declared.period.Period.{Period}
use Rattle.spec_windows.specs.declared.window.Window.{Window}
use Rattle.spec_windows.specs.Windows.{IsOverlapping, period_of, span_at, keeps_limits, overlaps_window}
use Rattle.occurrence_windows.specs.Bounds.{first_wall, last_wall}
use Rattle.occurrence_windows.specs.Listing.{IsAfter}
use Rattle.occurrence_windows.proofs.Walking.{after_trans, beyond, after_by, after_cases}
use Rattle.rule_expand.specs.Later.{IsUntil}
use Rattle.spec_series.specs.Given.{is_after, IsFirstOf}
use Rattle.rule_expand.proofs.Sets.{is_int_le}
use Rattle.rule_expand.proofs.Places.{and_both, late_is}

-- the years 1 to 9998
abbrev pub IsShowing : ℤ → Type 0
IsShowing w = (FIRST_START ≤ℤ w) × (w ≤ℤ LAST_START)

-- instants stand in these years alone, and less than 26 hours from the wall second
pub record AreInstants (at : ℤ → Option ℤ) : Type 0 where
  pub showing : (w t : ℤ) → at w ≡ Some t → IsShowing w
  pub near : (w t : ℤ) → at w ≡ Some t → IsWithin 93599 (t -ℤ w)

-- what a span has
pub record HasSpan (at : ℤ → Option ℤ) (o : Occurrence) (p : Period) : Type 0 where
  pub last : ℤ
  pub first : at o.start ≡ Some p.from
  pub ends : at (o.start +ℤ pos (86400 * o.length.days)) ≡ Some last
  pub to : p.to ≡ last +ℤ pos o.length.seconds

from_of : Option Period → ℤ
from_of None = pos 0
from_of (Some p) = p.from

to_of : Option Period → ℤ
to_of None = pos 0
to_of (Some p) = p.to

span_parts : (a b : Option ℤ) (n : ℕ) (p : Period) → period_of a (option_map (λ t. t +ℤ pos n) b) ≡ Some p → (t : ℤ) × ((a ≡ Some p.from) × ((b ≡ Some t) × (p.to ≡ t +ℤ pos n)))
unfolding from_of to_of
span_parts None b n p h = cc
span_parts (Some s) None n p h = cc
span_parts (Some s) (Some t) n p h = (t, (ap (λ x. Some x) (ap from_of h), (refl, sym (ap to_of h))))

pub has_span : (at : ℤ → Option ℤ) (o : Occurrence) (p : Period) → span_at at o ≡ Some p → HasSpan at o p
unfolding span_at
has_span at o p h = let x = span_parts (at o.start) (at (o.start +ℤ pos (86400 * o.length.days))) o.length.seconds p h in
    record { last = x.0; first = x.1.0; ends = x.1.1.0; to = x.1.1.1 }

pub some_holds : {A : Type 0} (test : A → Bool) (x : Option A) → option_map_or test x false ≡ true → (p : A) × ((x ≡ Some p) × (test p ≡ true))
some_holds test None h = cc
some_holds test (Some p) h = (p, (refl, h))

-- what an overlapping occurrence has
pub record HasOverlap (at : ℤ → Option ℤ) (w : Window) (o : Occurrence) : Type 0 where
  pub period : Period
  pub span : HasSpan at o period
  pub after : option_map_or (λ a. int_lt a period.to) w.after true ≡ true
  pub before : option_map_or (λ b. int_lt period.from b) w.before true ≡ true

pub has_overlap : (at : ℤ → Option ℤ) (w : Window) (o : Occurrence) → overlaps_window at w o ≡ true → HasOverlap at w o
unfolding overlaps_window keeps_limits
has_overlap at w o h =
    let x = some_holds (keeps_limits w) (span_at at o) h in
    let both = and_both (option_map_or (λ a. int_lt a x.0.to) w.after true) _ x.1.1 in
    record { period = x.0; span = has_span at o x.0 x.1.0; after = both.0; before = both.1 }

pub shows : (at : ℤ → Option ℤ) (w : Window) (o : Occurrence) → AreInstants at → overlaps_window at w o ≡ true → IsShowing o.start
shows at w o i h = let m = has_overlap at w o h in i.showing o.start m.period.from m.span.first

low_by : (a : Option ℤ) (longest : ℕ) (start to : ℤ) → IsShowing start → option_map_or (λ x. int_lt x to) a true ≡ true → to ≤ℤ (start +ℤ pos longest +ℤ pos 93599) → first_wall a longest ≤ℤ start
low_by None longest start to s h le = s.0
low_by (Some a) longest start to s h le = let x = late_is a to h in omega (arith, signed_arith)

pub low_holds : (at : ℤ → Option ℤ) (w : Window) (o : Occurrence) (longest : ℕ) → AreInstants at → wall_seconds o.length ≤ longest → overlaps_window at w o ≡ true → first_wall w.after longest ≤ℤ o.start
low_holds at w o longest i le h =
    let m = has_overlap at w o h in
    let near = i.near (o.start +ℤ pos (86400 * o.length.days)) m.span.last m.span.ends in
    let t = m.span.to in
    low_by w.after longest o.start m.period.to (shows at w o i h) m.after (omega (arith, signed_arith, near, t, le))

high_by : (b : Option ℤ) (start from : ℤ) → IsShowing start → option_map_or (λ x. int_lt from x) b true ≡ true → start ≤ℤ (from +ℤ pos 93599) → start ≤ℤ last_wall b
high_by None start from s h le = s.1
high_by (Some b) start from s h le = let x = late_is from b h in omega (arith, signed_arith)

pub high_holds : (at : ℤ → Option ℤ) (w : Window) (o : Occurrence) → AreInstants at → overlaps_window at w o ≡ true → o.start ≤ℤ last_wall w.before
high_holds at w o i h =
    let m = has_overlap at w o h in
    let near = i.near o.start m.period.from m.span.first in
    high_by w.before o.start m.period.from (shows at w o i h) m.before (omega (arith, signed_arith, near))

-- each that P holds of and that comes after the one point comes after the other too
abbrev pub AreLeft : (Occurrence → Type 0) → ℤ → Option ℤ → ℤ → Option ℤ → Type 0
AreLeft P from past here seen = (o : Occurrence) → P o → is_after from past o.start o.rid ≡ true → is_after here seen o.start o.rid ≡ true

abbrev pub IsOnward : ℤ → Option ℤ → ℤ → Option ℤ → Type 0
IsOnward from past here seen = (s r : ℤ) → is_after here seen s r ≡ true → is_after from past s r ≡ true

abbrev pub AreSingle : (Occurrence → Type 0) → Type 0
AreSingle occurs = (a b : Occurrence) → occurs a → occurs b → a.start ≡ b.start → a.rid ≡ b.rid → a ≡ b

module _ (s : Series) (at : ℤ → Option ℤ) (w : Window) where
  abbrev P : Occurrence → Type 0
  P = IsOverlapping s at w

  pub onward_more : (from here : ℤ) (past seen : Option ℤ) (x : Occurrence) → IsOnward from past here seen → IsFirstOf (IsAfter (IsOccurrence s) here seen) (Some x) → IsOnward from past x.start (Some x.rid)
  onward_more from here past seen x old first = λ s r h. old s r (after_trans here seen x.start x.rid s r first.0.1 h)

  pub left_more : (from here : ℤ) (past seen : Option ℤ) (x : Occurrence) → AreSingle (IsOccurrence s) → AreLeft P from past here seen → IsFirstOf (IsAfter (IsOccurrence s) here seen) (Some x) → overlaps_window at w x ≡ false
      → AreLeft P from past x.start (Some x.rid)
  left_more from here past seen x single old first missed = λ o m late.
      beyond x o (first.1 o (m.0, old o m late)) (λ e f. let same = single o x m.0 first.0.0 e f in let y = rw same at m.1 in cc)

  pub none_left : (from here high : ℤ) (past seen : Option ℤ) → AreInstants at → high ≡ last_wall w.before → AreLeft P from past here seen → IsFirstOf (IsUntil (Some high) (IsAfter (IsOccurrence s) here seen)) None
      → IsFirstOf (IsAfter P from past) None
  none_left from here high past seen i e old none = λ o m.
      let le = high_holds at w o i m.0.1 in
      none o ((m.0.0, old o m.0 m.1), is_int_le o.start high (omega (arith, signed_arith, le, e)))

  pub found_first : (from here : ℤ) (past seen : Option ℤ) (x : Occurrence) → IsOnward from past here seen → AreLeft P from past here seen → IsFirstOf (IsAfter (IsOccurrence s) here seen) (Some x) → overlaps_window at w x ≡ true
      → IsFirstOf (IsAfter P from past) (Some x)
  found_first from here past seen x on old first is = (((first.0.0, is), on x.start x.rid first.0.1), λ o m. first.1 o (m.0.0, old o m.0 m.1))

pub instant_near : (at : ℤ → Option ℤ) → AreInstants at → (w t : ℤ) → at w ≡ Some t → IsWithin 500000000000 t
instant_near at i w t e = omega (arith, signed_arith, i.showing w t e, i.near w t e)

pub at_first : (at : ℤ → Option ℤ) (w : Window) (o : Occurrence) (longest : ℕ) (low : ℤ) → AreInstants at → wall_seconds o.length ≤ longest → low ≡ first_wall w.after longest → overlaps_window at w o ≡ true → is_after low None o.start o.rid ≡ true
at_first at w o longest low i le e h =
    let x = low_holds at w o longest i le h in
    after_by low None o.start o.rid (by_lt_z low o.start (λ lt. inl lt) (λ ge. inr (omega (arith, signed_arith, x, e, ge), refl)))

untrue : IsTrue false → ⊥
untrue h = cc

pub some_one : (P : Occurrence → Type 0) (low : ℤ) (r : Option Occurrence) → ((q : Occurrence) → P q → is_after low None q.start q.rid ≡ true) → IsFirstOf (IsAfter P low None) r
    → (IsTrue (is_some r) → (o : Occurrence) × P o) × (((o : Occurrence) × P o) → IsTrue (is_some r))
some_one P low None all h = (λ t. absurd (untrue t), λ p. absurd (h p.0 (p.1, all p.0 p.1)))
some_one P low (Some x) all h = (λ t. (x, h.0.0), λ p. refl)

pub start_in : (occurs : Occurrence → Type 0) (here high : ℤ) (seen : Option ℤ) (x : Occurrence) → IsFirstOf (IsAfter occurs here seen) (Some x) → IsWithin 400000000000 here → IsWithin 400000000000 high → x.start ≤ℤ high → IsWithin 400000000000 x.start
start_in occurs here high seen x first near top le = elim (after_cases here seen x.start x.rid first.0.1) [
  | inl lt ↦ (omega (arith, signed_arith, near, lt), omega (arith, signed_arith, top, le))
  | inr e ↦ (omega (arith, signed_arith, near, e.0), omega (arith, signed_arith, top, le))
]

pub showing_near : (w : ℤ) → IsShowing w → IsWithin 400000000000 w
showing_near w h = omega (arith, signed_arith, h)

pub overlapping_single : (s : Series) (at : ℤ → Option ℤ) (w : Window) → AreSingle (IsOccurrence s) → AreSingle (IsOverlapping s at w)
overlapping_single s at w h = λ a b m n e f. h a b m.0 n.0 e f
