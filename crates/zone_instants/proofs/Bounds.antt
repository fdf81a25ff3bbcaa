-- How far an instant lies from its wall second.
use Rattle.std.proofs.Common.{◌≡◌, ℤ, ◌-ℤ◌, not, Bool, true, false, int_lt, Option, Some, None, if◌then◌else◌, refl, sym, arith, IfSome}
use Rattle.std.specs.Prelude.{option_map}
use Rattle.std.proofs.lemmas.Int.{ints, clamps}
use Rattle.jiff_core.proofs.SignedLemmas.{signed_arith}
use Rattle.jiff_core.specs.Calendar.{IsWithin}
use Rattle.jiff_tz.specs.declared.posix.Dst.{Dst}
use Rattle.jiff_tz.specs.declared.posix.TimeZone.{TimeZone}
use Rattle.jiff_tz.specs.PosixText.{TzText, DstText, tz_view, dst_view}
use Rattle.jiff_tz.specs.PosixRule.{in_window, in_span, saturating_add, saturating_sub}
use Rattle.spec_events.specs.Values.{is_showing}
use Rattle.spec_windows.specs.Clocks.{ClockReading, Once, Twice, Never, advance, reading_behind, reading_ahead, reading_by, reading_at, instant_of, instant_in, change_at}

abbrev pub IsNearDst : Option DstText → Type 0
IsNearDst None = Unit {0}
IsNearDst (Some d) = IsWithin 93599 d.seconds

-- offsets of less than 26 hours
abbrev pub HasNearOffsets : TzText → Type 0
HasNearOffsets tz = IsWithin 93599 tz.std_seconds × IsNearDst tz.dst

abbrev IsNearReading : ClockReading → Type 0
IsNearReading (Once a) = IsWithin 93599 a
IsNearReading (Twice a b) = IsWithin 93599 a × IsWithin 93599 b
IsNearReading (Never a b) = IsWithin 93599 a × IsWithin 93599 b

either : (b : Bool) (x y : ClockReading) → IsNearReading x → IsNearReading y → IsNearReading (if b then x else y)
either true x y h k = h
either false x y h k = k

behind_near : (std dst : ℤ) (w : ℤ × ℤ) (at : ℤ) → IsWithin 93599 std → IsWithin 93599 dst → IsNearReading (reading_behind std dst w at)
behind_near std dst w at h k =
    either (in_window w at) (Once dst) _ k
    (either (in_span (saturating_add w.0 (advance std dst)) w.0 at) (Twice std dst) _ (h, k)
    (either (in_span w.1 (saturating_sub w.1 (advance std dst)) at) (Never dst std) (Once std) (k, h) h))

ahead_near : (std dst : ℤ) (w : ℤ × ℤ) (at : ℤ) → IsWithin 93599 std → IsWithin 93599 dst → IsNearReading (reading_ahead std dst w at)
ahead_near std dst w at h k =
    either (not (in_window w at)) (Once std) _ h
    (either (in_span w.0 (saturating_add w.0 (advance std dst)) at) (Never std dst) _ (h, k)
    (either (in_span (saturating_sub w.1 (advance std dst)) w.1 at) (Twice dst std) (Once dst) (k, h) k))

by_near : (std dst : ℤ) (w : ℤ × ℤ) (at : ℤ) → IsWithin 93599 std → IsWithin 93599 dst → IsNearReading (reading_by std dst w at)
by_near std dst w at h k =
    either (int_lt dst std) (reading_behind std dst w at) _ (behind_near std dst w at h k)
    (either (int_lt std dst) (reading_ahead std dst w at) (Once std) (ahead_near std dst w at h k) h)

reading_near_by : (tz : TzText) (o : Option DstText) (y at : ℤ) → tz.dst ≡ o → HasNearOffsets tz → IsNearReading (reading_at tz y at)
unfolding reading_at
reading_near_by tz None y at e h = rw e h.0
reading_near_by tz (Some d) y at e h =
    let k = rw e at h.1 in
    rw e (by_near tz.std_seconds d.seconds (change_at y d.start, change_at y d.finish) at h.0 k)

reading_near : (s : ClockReading) (w : ℤ) → IsNearReading s → IsWithin 93599 (instant_of w s -ℤ w)
reading_near (Once a) w h = omega (arith, signed_arith, h)
reading_near (Twice a b) w h = omega (arith, ints, clamps, h)
reading_near (Never a b) w h = omega (arith, signed_arith, h)

instant_near_by : (b : Bool) (tz : TzText) (w t : ℤ) (s : ClockReading) → IsNearReading s → (if b then Some (instant_of w s) else None) ≡ Some t → IsWithin 93599 (t -ℤ w)
instant_near_by true tz w t s h e = let same : instant_of w s ≡ t = cc in rw same at (reading_near s w h)
instant_near_by false tz w t s h e = cc

-- an instant lies less than 26 hours from its wall second
pub instant_near : (tz : TzText) (w t : ℤ) → HasNearOffsets tz → instant_in tz w ≡ Some t → IsWithin 93599 (t -ℤ w)
unfolding instant_in
instant_near tz w t h e = instant_near_by (is_showing w) tz w t (reading_at tz _ _) (reading_near_by tz tz.dst _ _ refl h) e

dst_near : (o : Option Dst) → IsNearDst (option_map dst_view o)
dst_near None = tt
dst_near (Some d) = d.offset.in_range

-- a rule that jiff holds has such offsets
pub rule_near : (tz : TimeZone) → HasNearOffsets (tz_view tz)
rule_near tz = (tz.std_offset.in_range, dst_near tz.dst)

pub near_some : (tz : TimeZone) (w : ℤ) (o : Option ℤ) → o ≡ instant_in (tz_view tz) w → IfSome o (λ t. IsWithin 93599 (t -ℤ w))
near_some tz w None e = tt
near_some tz w (Some t) e = instant_near (tz_view tz) w t (rule_near tz) (sym e)
