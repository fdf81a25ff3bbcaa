use Rattle.listen_workers.proofs.WorkerLemmas.{Working}
use Rattle.listen_workers.proofs.worker.worker.Given as goal

abbrev pub invariant-loop-served : goal.invariant-loop-served
invariant-loop-served g l = Working l.site (g.L.Listener.shown l.initial.listener) (g.L.Listener.shown l.listener)
    (record { clock = g.C.Clock.moments l.initial.clock; desk = g.D.Desk.shown l.initial.desk }) (record { clock = g.C.Clock.moments l.clock; desk = g.D.Desk.shown l.desk }) l.served
