use Rattle.std.proofs.Common.{◌≡◌, ◌≤◌, length, subst, true, arith, List}
use Rattle.object_log.proofs.WindowLemmas.{fits_within, least_fits}
use Rattle.object_log.specs.Pasts.{bytes_of, fits}
use Rattle.object_log.specs.declared.window.Past.{Past}
use Rattle.object_log.proofs.window.trim.Goals as goal

pub returns-clause-least : goal.returns-clause-least
returns-clause-least g c = λ d within.
    let all = c.args.pasts.now.items in
    let left = c.loop-pasts.pasts in
    let known = c.loop-pasts.invariant in
    let few : length left.items ≤ 4096 = omega (arith, c.if-len-gt-WINDOW.false, c.len.ensures, left.ok.0) in
    let small : bytes_of left.items ≤ 16777216 = omega (arith, c.if-left-gt-WINDOW_BYTES.false, known.left) in
    least_fits all c.loop-pasts.count d known.before (subst (λ (l : List (Past g.row.T.Denot)). fits l ≡ true) known.pasts (fits_within left.items few small))
