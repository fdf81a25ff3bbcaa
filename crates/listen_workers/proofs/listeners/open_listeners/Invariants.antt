use Rattle.std.proofs.Common.{◌≡◌, ◌≤◌, length}
use Rattle.std.specs.Prelude.{vec_capacity}
use Rattle.listen_workers.specs.Listeners.{AskedFor}
use Rattle.listen_workers.proofs.listeners.open_listeners.Given as goal

abbrev pub invariant-loop-worker : goal.invariant-loop-worker
invariant-loop-worker g l = record {
  asked : AskedFor (g.H.Host.shown l.initial.host) (g.H.Host.shown l.host) l.port l.worker;
  later : (g.H.Host.shown l.initial.host).faults ≤ (g.H.Host.shown l.host).faults;
  count : length l.listeners.items ≡ l.worker;
  room : l.workers ≤ vec_capacity l.listeners;
}
