use Rattle.kept_run.proofs.LoopLemmas.{Standing}
use Rattle.kept_run.proofs.lines.run_lines.Given as goal

abbrev pub invariant-loop-count : goal.invariant-loop-count
invariant-loop-count g l =
    Standing l.site l.user l.initial.desk
    (record { source = g.S.Source.shown l.initial.input; sink = g.K.Sink.shown l.initial.output; clock = g.C.Clock.moments l.initial.clock; keeper = g.J.Keeper.shown l.initial.keeper })
    (record { source = g.S.Source.shown l.input; sink = g.K.Sink.shown l.output; clock = g.C.Clock.moments l.clock; keeper = g.J.Keeper.shown l.keeper })
    l.desk l.rest l.count
