use Rattle.std.proofs.Common.{◌∙◌, ◌<◌, arith, rules}
use Rattle.listen_workers.proofs.WorkerLemmas.{each_accounts, spent_end, working_on, works_of}
use Rattle.listen_workers.proofs.worker.worker.Goals as goal

pub serve_connection-how-requires : goal.serve_connection-how-requires
serve_connection-how-requires g c = each_accounts _ _ _ _ c.loop-served.invariant.serves ∙ c.requires

pub returns-then-is_last : goal.returns-then-is_last
returns-then-is_last g c =
    let few : c.loop-served.served < c.args.connections = c.loop-served-test.true in
    works_of (working_on c.loop-served.invariant c.in-Ok.ensures.ok c.in-Ok.ensures.cause.later c.serve_connection-how.ensures c.ended.ensures.connections c.ended.ensures.faults)
    (omega arith, omega (arith, few), spent_end c.serve_connection-how.ensures (search rules))

pub loop-served-preserved : goal.loop-served-preserved
loop-served-preserved g c =
    working_on c.loop-served.invariant c.in-Ok.ensures.ok c.in-Ok.ensures.cause.later c.serve_connection-how.ensures c.ended.ensures.connections c.ended.ensures.faults
