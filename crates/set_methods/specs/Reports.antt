-- What a `PlanError` says of why a set is refused.
use Rattle.std.specs.Prelude.{◌≡◌, Option, Some}
use Rattle.spec_calls.specs.declared.call.MethodError.{MethodError}
use Rattle.set_methods.specs.declared.planned.PlanError.{PlanError}
use Rattle.set_methods.specs.declared.planned.PlanError.TheVariants.{Method, NoMemory}

abbrev pub Reports : PlanError → Option MethodError → Type 0
Reports (Method e) refusal = refusal ≡ Some e
Reports NoMemory refusal = Unit {0}
