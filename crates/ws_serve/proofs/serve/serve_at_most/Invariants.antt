use Rattle.ws_serve.proofs.Standing.{Serving, setting}
use Rattle.ws_serve.proofs.serve.serve_at_most.Given as goal

abbrev pub invariant-loop-turn : goal.invariant-loop-turn
invariant-loop-turn g l = Serving l.user l.most l._turn l.replies l.push
    (setting (g.L.WsLink.shown l.initial.link) (g.C.Clock.moments l.initial.clock) (g.D.Desk.shown l.initial.desk))
    (setting (g.L.WsLink.shown l.link) (g.C.Clock.moments l.clock) (g.D.Desk.shown l.desk)) l.fronts.items
