use Rattle.std.proofs.Common.{ℕ}
use Rattle.listen_workers.proofs.ListenerLemmas.{not_opened}
use Rattle.listen_workers.proofs.listeners.open_listeners.Goals as goal

pub returns-in-Err-clause-how : goal.returns-in-Err-clause-how
returns-in-Err-clause-how g c =
    let e = c.listener.ensures in
    not_opened (g.H.Host.shown c.args.host.now) (g.H.Host.shown c.loop-worker.host) (g.H.Host.shown c.listener.new.self) c.args.port c.loop-worker.worker c.args.workers
    c.loop-worker.invariant.asked c.loop-worker-test.true c.loop-worker.invariant.later _ ℕ c.listener.result c.in-Err.error c.in-Err.is e.asked_in_vain e.no_memory e.failed
