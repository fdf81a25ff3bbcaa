use Rattle.std.proofs.Common.{◌≡◌, drop}
use Rattle.std.specs.List.{list_all}
use Rattle.spec_core.specs.Capabilities.{is_capability}
use Rattle.batch_exec.proofs.request.are_capabilities.Given as goal

abbrev pub invariant-loop-name : goal.invariant-loop-name
invariant-loop-name l = list_all is_capability (drop l.name-index l.names) ≡ list_all is_capability l.names
