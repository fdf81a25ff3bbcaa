use Rattle.std.proofs.Common.{◌≡◌, drop}
use Rattle.spec_calls.specs.Methods.{uses}
use Rattle.batch_exec.proofs.meaning.is_used.Given as goal

abbrev pub invariant-loop-name : goal.invariant-loop-name
invariant-loop-name l = uses (drop l.name-index l.capabilities) l.capability ≡ uses l.capabilities l.capability
