use Rattle.std.proofs.Common.{◌≤◌, ◌<◌, arith, length}
use Rattle.std.proofs.lemmas.Grind.{common_steps}
use Rattle.object_log.proofs.StandingLemmas.{found_more}
use Rattle.object_log.proofs.NoteLemmas.{length-said, mention_at}
use Rattle.object_log.specs.Pasts.{mention_past}
use Rattle.object_log.specs.Puts.{said}
use Rattle.object_log.proofs.page.standings_between.Goals as goal

pub loop-state-preserved : goal.loop-state-preserved
loop-state-preserved g c = λ id.
    let ns = c.args.log.now.told.items in
    let k = c.args.since in
    let j = c.loop-state.state in
    let n = c.past.result.now in
    let after : k ≤ j = grind (arith, common_steps) in
    let size = length-said ns in
    let within : j < length ns = grind (arith, common_steps) in
    let inside : j < length (said ns) = omega (arith, within, size) in
    found_more (said ns) k j (mention_past n) id _ _ after inside (mention_at ns j n within c.past.ensures) (c.loop-state.invariant id) (c.in_ok-advance.ensures.standings id)
