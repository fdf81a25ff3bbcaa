use Rattle.std.proofs.Common.{◌≡◌, ◌≤◌, length}
use Rattle.std.specs.Prelude.{vec_capacity}
use Rattle.listen_workers.specs.Listeners.{AskedFor}
use Rattle.listen_workers.proofs.accepters.open_accepters.Given as goal

abbrev pub invariant-loop-worker : goal.invariant-loop-worker
invariant-loop-worker g l = record {
  asked : AskedFor (g.G.SocketHost.shown l.initial.host) (g.G.SocketHost.shown l.host) l.port l.worker;
  later : (g.G.SocketHost.shown l.initial.host).faults ≤ (g.G.SocketHost.shown l.host).faults;
  count : length l.accepters.items ≡ l.worker;
  room : l.workers ≤ vec_capacity l.accepters;
}
