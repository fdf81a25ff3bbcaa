use Rattle.std.proofs.Common.{◌≡◌, drop, map}
use Rattle.std.specs.List.{list_all}
use Rattle.spec_calls.specs.Arguments.{argument_of, is_well_given}
use Rattle.spec_calls.specs.Methods.{are_well_given}
use Rattle.spec_json.specs.Data.{lookup}
use Rattle.batch_exec.proofs.arguments.are_well_given.Given as goal

abbrev pub invariant-loop-argument : goal.invariant-loop-argument
invariant-loop-argument l = list_all (λ a. is_well_given a (lookup a.name l.arguments)) (map argument_of (drop l.argument-index l.argument-items)) ≡ are_well_given l.fn.method l.arguments
