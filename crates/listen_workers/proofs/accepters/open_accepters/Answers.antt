use Rattle.std.proofs.Common.{ℕ}
use Rattle.listen_workers.proofs.ListenerLemmas.{not_opened}
use Rattle.listen_workers.proofs.accepters.open_accepters.Goals as goal

pub returns-in-Err-clause-how : goal.returns-in-Err-clause-how
returns-in-Err-clause-how g c =
    let e = c.accepter.ensures in
    not_opened (g.G.SocketHost.shown c.args.host.now) (g.G.SocketHost.shown c.loop-worker.host) (g.G.SocketHost.shown c.accepter.new.self) c.args.port c.loop-worker.worker c.args.workers
    c.loop-worker.invariant.asked c.loop-worker-test.true c.loop-worker.invariant.later _ ℕ c.accepter.result c.in-Err.error c.in-Err.is e.asked_in_vain e.no_memory e.failed
