use Rattle.std.proofs.Common.{◌≡◌, List}
use Rattle.std.specs.Vec.Iter.{into_iter_items}
use Rattle.json_edge.specs.Lengths.{saturated}
use Rattle.spec_batch.specs.Batch.{Step}
use Rattle.spec_batch.specs.Meaning.{size_of_responses}
use Rattle.batch_exec.specs.Answering.{Going}
use Rattle.batch_exec.proofs.batch.answer_all.Given as goal

abbrev pub invariant-loop-invocation : goal.invariant-loop-invocation
invariant-loop-invocation g l =
    (l.size ≡ saturated (size_of_responses l.responses.items))
    × (steps : List Step) × Going l.user (record { using = l.capabilities; calls = l.fn.calls; created_ids = l.fn.given }) l.moment l.fn.fronts.items l.fronts.items (g.D.Desk.shown l.fn.desk) (g.D.Desk.shown l.desk)
    steps (into_iter_items l.invocation-iterator) l.responses.items l.created
