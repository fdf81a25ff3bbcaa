use Rattle.std.proofs.Common.{FitsSigned, arith, sym, w64}
use Rattle.std.proofs.lemmas.Int.{to_z-of_z}
use Rattle.std.specs.Result.{is_ok}
use Rattle.jiff_core.proofs.SignedLemmas.{signed_arith}
use Rattle.jiff_tz.specs.PosixText.{tz_view}
use Rattle.query_filter.proofs.ClockLemmas.{named_near, times_pushed}
use Rattle.query_filter.proofs.clock.Clock.keep.Goals as goal

pub invariant_of-self : goal.invariant_of-self
invariant_of-self c =
    let named = sym c.in-Some.ensures in
    let near = named_near c.self.inside.rule c.args.text.now c.in-Some.instant named in
    let fits : FitsSigned w64 c.in-Some.instant = omega (arith, signed_arith, near) in
    rw (c.push.ensures.items, to_z-of_z w64 c.in-Some.instant fits)
    (times_pushed (tz_view c.self.inside.rule) c.self.inside.times.items (record { text = c.in_ok-text.text; instant = c.in-Some.instant }) (is_ok c.push.result) c.self.invariant (rw c.in_ok-text.ensures named))
