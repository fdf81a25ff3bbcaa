use Rattle.std.proofs.Common.{◌≤◌, ◌<◌, ap, arith, nat_eq, length, ◌∙◌}
use Rattle.std.proofs.lemmas.Grind.{common_steps}
use Rattle.std.specs.Map.{lookup}
use Rattle.object_log.proofs.NoteLemmas.{begun_all, begun_more, begun_none}
use Rattle.object_log.proofs.standing.standings_from.Goals as goal

pub loop-state-init : goal.loop-state-init
loop-state-init g c = λ id. ap (λ es. lookup (λ k. nat_eq id k) es) c.new-standings.ensures.empty ∙ begun_none c.args.log.now.told.items c.args.since id

pub loop-state-preserved : goal.loop-state-preserved
loop-state-preserved g c = λ id.
    let ps = c.args.log.now.told.items in
    let k = c.args.since in
    let j = c.loop-state.state in
    let after : k ≤ j = grind (arith, common_steps) in
    let within : j < length ps = grind (arith, common_steps) in
    begun_more ps k j c.past.result.now id _ _ after within c.past.ensures (c.loop-state.invariant id) (c.in_ok-begin.ensures id)

pub returns : goal.returns
returns g c = λ id.
    let ps = c.args.log.now.told.items in
    let past : length ps ≤ c.loop-state.state = grind (arith, common_steps) in
    begun_all ps c.args.since c.loop-state.state id _ past (c.loop-state.invariant id)
