use Rattle.conn_serve.proofs.Standing.{Serving, setting}
use Rattle.conn_serve.proofs.serve.serve_at_most.Given as goal

abbrev pub invariant-loop-requests : goal.invariant-loop-requests
invariant-loop-requests g l = Serving l.site l.most l.requests
    (setting (g.S.Source.shown l.initial.source) (g.K.Sink.shown l.initial.sink) (g.C.Clock.moments l.initial.clock) (g.D.Desk.shown l.initial.desk))
    (setting (g.S.Source.shown l.source) (g.K.Sink.shown l.sink) (g.C.Clock.moments l.clock) (g.D.Desk.shown l.desk)) l.fronts.items l.kept
