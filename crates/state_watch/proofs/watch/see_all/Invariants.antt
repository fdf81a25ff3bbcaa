use Rattle.std.proofs.Common.{◌≡◌, vec_len}
use Rattle.state_watch.proofs.Seeing.{Seeing}
use Rattle.state_watch.proofs.watch.see_all.Given as goal

abbrev pub invariant-loop-i : goal.invariant-loop-i
invariant-loop-i g l = Seeing l.moment l.initial.states.items l.states.items l.i (g.D.Desk.shown l.initial.desk) (g.D.Desk.shown l.desk) l.changed l.calls
