use Rattle.ws_serve.proofs.HostLemmas.{Hosting}
use Rattle.listen_workers.proofs.socket_worker.socket_worker.Given as goal

abbrev pub invariant-loop-looked : goal.invariant-loop-looked
invariant-loop-looked g l = Hosting l.site (g.A.WsAccept.shown l.initial.accepter) (g.A.WsAccept.shown l.accepter)
    (record { clock = g.C.Clock.moments l.initial.clock; desk = g.D.Desk.shown l.initial.desk }) (record { clock = g.C.Clock.moments l.clock; desk = g.D.Desk.shown l.desk }) l.looked
