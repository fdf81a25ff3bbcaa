use Rattle.std.proofs.Common.{◌≡◌, length, ◌≤◌}
use Rattle.std.specs.Prelude.{vec_capacity}
use Rattle.listen_workers.proofs.crew.start_all.Given as goal

abbrev pub invariant-loop-job : goal.invariant-loop-job
invariant-loop-job g l = record {
  started : l.started.items ≡ l.yielded;
  room : length l.fn.jobs.items ≤ vec_capacity l.started;
  faults : g.S.Spawner.faults l.spawner ≡ g.S.Spawner.faults l.initial.spawner;
  served : g.S.Spawner.served l.spawner ≡ g.S.Spawner.served l.initial.spawner;
}
