use Rattle.std.proofs.Common.{FitsSigned, arith, sym, w64}
use Rattle.std.proofs.lemmas.Int.{to_z-of_z}
use Rattle.std.proofs.lemmas.Slice.Eq.{bytes_eq-Decides}
use Rattle.jiff_core.proofs.SignedLemmas.{signed_arith}
use Rattle.jiff_tz.specs.PosixText.{tz_view}
use Rattle.query_filter.proofs.ClockLemmas.{named_near, time_is}
use Rattle.query_filter.proofs.clock.instant_by.Goals as goal

pub returns-then-eq : goal.returns-then-eq
returns-then-eq c =
    let equal = rw (c.eq.ensures, c.as_str.ensures, c.as_str-in-loop-time.ensures) at c.if-eq.true in
    let named = time_is (tz_view c.args.rule.now) c.args.times.now c.loop-time.time-index c.time-item.result c.args.text.now c.requires c.loop-time-test.true c.time-item.is ((bytes_eq-Decides c.time-item.result.text c.args.text.now).0 equal) in
    let near = named_near c.args.rule.now c.args.text.now c.time-item.result.instant (sym named) in
    let fits : FitsSigned w64 c.time-item.result.instant = omega (arith, signed_arith, near) in
    rw (to_z-of_z w64 c.time-item.result.instant fits) named
