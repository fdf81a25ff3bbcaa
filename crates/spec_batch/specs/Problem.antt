-- The problem that tells why a whole request was refused (RFC 8620 section 3.6.1, RFC 7807 section 3).
use Rattle.std.specs.Prelude.{ℕ, pos, List, [], ◌∷◌, ◌++◌, codes}
use Rattle.spec_json.specs.Data.{Data, Pair, whole, text, object, members_of}
use Rattle.spec_batch.specs.declared.request.Limit.{Limit as LimitName}
use Rattle.spec_batch.specs.declared.request.Limit.TheVariants.{SizeRequest, CallsInRequest}
use Rattle.spec_batch.specs.declared.request.RequestError.{RequestError}
use Rattle.spec_batch.specs.declared.request.RequestError.TheVariants.{NotJson, NotRequest, UnknownCapability, Limit}

abbrev pub problem_type : RequestError → List ℕ
problem_type NotJson = codes "urn:ietf:params:jmap:error:notJSON"
problem_type NotRequest = codes "urn:ietf:params:jmap:error:notRequest"
problem_type UnknownCapability = codes "urn:ietf:params:jmap:error:unknownCapability"
problem_type (Limit l) = codes "urn:ietf:params:jmap:error:limit"

abbrev pub problem_detail : RequestError → List ℕ
problem_detail NotJson = codes "The request is not JSON."
problem_detail NotRequest = codes "The request is not a JMAP request."
problem_detail UnknownCapability = codes "A capability is unknown."
problem_detail (Limit l) = codes "A limit was passed."

-- the name of a limit (RFC 8620 section 2)
abbrev pub limit_name : LimitName → List ℕ
limit_name SizeRequest = codes "maxSizeRequest"
limit_name CallsInRequest = codes "maxCallsInRequest"

abbrev pub limit_member : RequestError → List Pair
limit_member (Limit l) = (codes "limit", text (limit_name l)) ∷ []
limit_member _ = []

abbrev pub problem : RequestError → Data
problem e = object (members_of (
    (codes "detail", text (problem_detail e)) ∷ limit_member e
    ++ (codes "status", whole (pos 400)) ∷ (codes "type", text (problem_type e)) ∷ []))
