use Rattle.std.proofs.Common.{◌≡◌, ◌∙◌, ℤ, pos, ◌-ℤ◌, ◌*ℤ◌, Bool, true, false, Option, Some, None, if◌then◌else◌, is_some, refl, sym, ap, arith}
use Rattle.std.specs.Prelude.{option_map}
use Rattle.jiff_core.specs.declared.Offset.{Offset}
use Rattle.jiff_core.specs.declared.civil.datetime.DateTime.{DateTime}
use Rattle.jiff_core.specs.DateTime.{civil_nanos}
use Rattle.jiff_core.proofs.SignedLemmas.{signed_arith}
use Rattle.jiff_tz.specs.declared.posix.TimeZone.{TimeZone}
use Rattle.jiff_tz.specs.declared.posix.DayTime.{DayTime}
use Rattle.jiff_tz.specs.declared.posix.Dst.{Dst}
use Rattle.jiff_tz.specs.declared.ambiguous.AmbiguousOffset.{AmbiguousOffset}
use Rattle.jiff_tz.specs.PosixText.{TzText, tz_view, dst_view, day_time_view}
use Rattle.jiff_tz.specs.PosixRule.{rule_nanos, ambiguous_at, ambiguous_at_by, ambiguous_by, ambiguous_behind, ambiguous_ahead}
use Rattle.jiff_core.specs.Date.{epoch_day}
use Rattle.jiff_core.proofs.DateTimeLemmas.{civil_nanos-parts, time_nanos_bound}
use Rattle.spec_time.specs.CivilDay.{year_of}
use Rattle.spec_time.specs.Walls.{day_of_wall}
use Rattle.civil_days.proofs.JiffLemmas.{IsDateOf_later}
use Rattle.civil_days.proofs.DateLemmas.{one_date}
use Rattle.spec_events.specs.Values.{is_showing}
use Rattle.spec_windows.specs.Clocks.{Once, change_at, reading_behind, reading_ahead, reading_by, reading_at, instant_in, instant_of}
use Rattle.zone_instants.specs.Offsets.{reading_of}

reading_if : (b : Bool) (x y : AmbiguousOffset) → reading_of (if b then x else y) ≡ (if b then reading_of x else reading_of y)
reading_if true x y = refl
reading_if false x y = refl

change-is : (y : ℤ) (d : DayTime) → rule_nanos y d (pos 0) ≡ change_at y (day_time_view d)
unfolding rule_nanos change_at
change-is y d = let e : d.time -ℤ pos 0 ≡ d.time = omega (arith, signed_arith) in rw e refl

behind-is : (std dst : Offset) (w : ℤ × ℤ) (at : ℤ) → reading_of (ambiguous_behind std dst w at) ≡ reading_behind std.seconds dst.seconds w at
behind-is std dst w at = simp reading_if

ahead-is : (std dst : Offset) (w : ℤ × ℤ) (at : ℤ) → reading_of (ambiguous_ahead std dst w at) ≡ reading_ahead std.seconds dst.seconds w at
ahead-is std dst w at = simp reading_if

by-is : (std dst : Offset) (w : ℤ × ℤ) (at : ℤ) → reading_of (ambiguous_by std dst w at) ≡ reading_by std.seconds dst.seconds w at
by-is std dst w at = simp reading_if

at_by-is : (std : Offset) (d : Dst) (dt : DateTime) → reading_of (ambiguous_at_by std (Some d) dt) ≡ reading_by std.seconds (dst_view d).seconds (change_at dt.date.year (dst_view d).start, change_at dt.date.year (dst_view d).finish) (civil_nanos dt)
at_by-is std d dt =
    rw (change-is dt.date.year d.rule.start, change-is dt.date.year d.rule.end)
    (by-is std d.offset (change_at dt.date.year (day_time_view d.rule.start), change_at dt.date.year (day_time_view d.rule.end)) (civil_nanos dt))

at-is_by : (tz : TimeZone) (o : Option Dst) (dt : DateTime) → tz.dst ≡ o → reading_of (ambiguous_at_by tz.std_offset o dt) ≡ reading_at (tz_view tz) dt.date.year (civil_nanos dt)
unfolding reading_at
at-is_by tz None dt e = rw e
at-is_by tz (Some d) dt e = rw e (at_by-is tz.std_offset d dt)

-- what jiff states of a rule and a datetime, from the rule's text
pub at-is : (tz : TimeZone) (dt : DateTime) → reading_of (ambiguous_at tz dt) ≡ reading_at (tz_view tz) dt.date.year (civil_nanos dt)
at-is tz dt = at-is_by tz tz.dst dt refl

-- the year of a datetime that a wall second names
pub year_of_wall : (dt : DateTime) (w : ℤ) → civil_nanos dt ≡ w *ℤ pos 1000000000 → dt.date.year ≡ year_of (day_of_wall w)
year_of_wall dt w e =
    let d = dt.date in
    let day : epoch_day d ≡ day_of_wall w = omega (arith, signed_arith, civil_nanos-parts dt, time_nanos_bound dt.time) in
    let date = IsDateOf_later (day_of_wall w) d.year (pos 0) d (omega (arith, signed_arith)) (omega (arith, signed_arith, day)) in
    ((one_date (day_of_wall w)).only d.year d.month d.day date).0

pub instant-is : (tz : TimeZone) (dt : DateTime) (w r : ℤ) → civil_nanos dt ≡ w *ℤ pos 1000000000 → r ≡ instant_of w (reading_of (ambiguous_at tz dt)) → is_showing w ≡ true → Some r ≡ instant_in (tz_view tz) w
unfolding instant_in
instant-is tz dt w r e h s =
    rw s (ap (λ x. Some x) (h ∙ ap (instant_of w) (at-is tz dt)
    ∙ ap (λ y. instant_of w (reading_at (tz_view tz) y (civil_nanos dt))) (year_of_wall dt w e)
    ∙ ap (λ n. instant_of w (reading_at (tz_view tz) (year_of (day_of_wall w)) n)) e))

fixed-reading : (tz : TzText) (y at : ℤ) (o : Option Dst) → tz.dst ≡ option_map dst_view o → is_some o ≡ false → reading_at tz y at ≡ Once tz.std_seconds
unfolding reading_at
fixed-reading tz y at None e h = rw e refl
fixed-reading tz y at (Some d) e h = cc

-- by a rule without daylight saving time
pub instant-fixed : (tz : TimeZone) (w r : ℤ) → is_some tz.dst ≡ false → r ≡ w -ℤ tz.std_offset.seconds → is_showing w ≡ true → Some r ≡ instant_in (tz_view tz) w
unfolding instant_in
instant-fixed tz w r fixed e s =
    rw s (ap (λ x. Some x) (e ∙ ap (instant_of w) (sym (fixed-reading (tz_view tz) (year_of (day_of_wall w)) (w *ℤ pos 1000000000) tz.dst refl fixed))))

pub instant-none : (tz : TzText) (w : ℤ) → is_showing w ≡ false → instant_in tz w ≡ None
unfolding instant_in
instant-none tz w h = rw h refl
