-- What a `QueryError` says of why a call is refused.
use Rattle.std.specs.Prelude.{◌≡◌, Option, Some}
use Rattle.spec_calls.specs.declared.call.MethodError.{MethodError}
use Rattle.query_methods.specs.declared.error.QueryError.{QueryError}
use Rattle.query_methods.specs.declared.error.QueryError.TheVariants.{Method, NoMemory}

abbrev pub Reports : QueryError → Option MethodError → Type 0
Reports (Method e) refusal = refusal ≡ Some e
Reports NoMemory refusal = Unit {0}
