use Rattle.std.proofs.Common.{◌≤◌, length}
use Rattle.std.specs.List.{AllZip}
use Rattle.std.specs.Prelude.{vec_capacity}
use Rattle.listen_edge.specs.Ending.{faults_in}
use Rattle.listen_workers.proofs.CrewLemmas.{Counted}
use Rattle.listen_workers.proofs.crew.join_all.Given as goal

abbrev pub invariant-loop-job : goal.invariant-loop-job
invariant-loop-job g l = record {
  each : AllZip g.J.Job.may_answer l.yielded l.backs.items;
  faults : Counted (λ back. faults_in (g.J.Back.Finished.ended back).end) (g.S.Spawner.faults l.initial.spawner) (g.S.Spawner.faults l.spawner) l.backs.items;
  served : Counted (λ back. (g.J.Back.Finished.ended back).served) (g.S.Spawner.served l.initial.spawner) (g.S.Spawner.served l.spawner) l.backs.items;
  room : length l.fn.started.items ≤ vec_capacity l.backs;
}
