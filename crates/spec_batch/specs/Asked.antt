-- What a JSON value asks for: a request, or a refusal of the whole (RFC 8620 sections 2 and 3.6.1).
use Rattle.std.specs.Prelude.{Bool, true, false, Option, Some, None, length, nat_lt, not, if◌then◌else◌}
use Rattle.std.specs.List.{list_all}
use Rattle.spec_json.specs.Data.{Data}
use Rattle.spec_core.specs.declared.limits.TheConstants.{MAX_CALLS_IN_REQUEST}
use Rattle.spec_core.specs.Capabilities.{is_capability}
use Rattle.spec_batch.specs.Requests.{request_of}
use Rattle.spec_batch.specs.declared.request.Limit.TheVariants.{CallsInRequest}
use Rattle.spec_batch.specs.declared.request.Request.{Request}
use Rattle.spec_batch.specs.declared.request.RequestError.{RequestError}
use Rattle.spec_batch.specs.declared.request.RequestError.TheVariants.{NotRequest, UnknownCapability, Limit}

pub data Asked : Type 0 where
  asked : Request → Asked
  refused : RequestError → Asked

abbrev pub checked : Option Request → Asked
checked None = refused NotRequest
checked (Some r) =
    if not (list_all is_capability r.using) then refused UnknownCapability
    else if nat_lt MAX_CALLS_IN_REQUEST (length r.calls) then refused (Limit CallsInRequest) else asked r

-- a request that uses a capability that isn't there, or has too many calls, is refused
abbrev pub asked_by : Data → Asked
asked_by d = checked (request_of d)

abbrev pub is_refused : Asked → Bool
is_refused (asked r) = false
is_refused (refused e) = true
