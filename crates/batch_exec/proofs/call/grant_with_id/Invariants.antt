use Rattle.std.proofs.Common.{◌≡◌, drop}
use Rattle.spec_batch.specs.Meaning.{grant_of}
use Rattle.batch_exec.proofs.call.grant_with_id.Given as goal

abbrev pub invariant-loop-grant : goal.invariant-loop-grant
invariant-loop-grant l = grant_of l.id (drop l.grant-index l.grants) ≡ grant_of l.id l.grants
