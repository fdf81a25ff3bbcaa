-- What a text of a socket asks for, and the text of its reply (RFC 8887 sections 4.3.2 to 4.3.4).
use Rattle.std.specs.Prelude.{ℕ, List, ◌&&◌, Bool, true, false, length, nat_lt, Option, Some, None, codes, if◌then◌else◌}
use Rattle.std.specs.Str.{bytes_eq}
use Rattle.spec_batch.specs.Asked.{Asked, asked_by, refused}
use Rattle.spec_batch.specs.declared.request.Limit.TheVariants.{SizeRequest}
use Rattle.spec_batch.specs.declared.request.RequestError.TheVariants.{Limit, NotJson, NotRequest}
use Rattle.spec_core.specs.declared.limits.TheConstants.{MAX_SIZE_REQUEST}
use Rattle.spec_json.specs.Data.{Data, null, text, object, Pair, field, members_of}
use Rattle.spec_json.specs.Edit.{with_pair}
use Rattle.spec_json.specs.Json.{Reading, not_json, not_whole, value, reading}
use Rattle.spec_json.specs.Parts.{members_in, text_at}

-- ---- requests (RFC 8887 section 4.3.2)

abbrev pub says_text : List ℕ → Option (List ℕ) → Bool
says_text wanted None = false
says_text wanted (Some s) = bytes_eq s wanted

-- absent, or a text
abbrev pub is_text_if_any : Option Data → Bool
is_text_if_any None = true
is_text_if_any (Some (text s)) = true
is_text_if_any _ = false

-- an object whose `@type` is `Request`, and whose `id` is a text where it has one
abbrev pub is_marked : Data → Bool
is_marked d = says_text (codes "Request") (text_at (codes "@type") d) && is_text_if_any (field (codes "id") d)

abbrev pub asked_by_marked : Data → Asked
asked_by_marked d = if is_marked d then asked_by d else refused NotRequest

abbrev pub marked_by_reading : Reading → Asked
marked_by_reading not_json = refused NotJson
marked_by_reading not_whole = refused NotRequest
marked_by_reading (value d) = asked_by_marked d

-- what a text asks for
abbrev pub asked_in_text : List ℕ → Asked
asked_in_text bytes = if nat_lt MAX_SIZE_REQUEST (length bytes) then refused (Limit SizeRequest) else marked_by_reading (reading bytes)

abbrev pub id_by_reading : Reading → Option (List ℕ)
id_by_reading not_json = None
id_by_reading not_whole = None
id_by_reading (value d) = text_at (codes "id") d

-- the client's id of a request, where it is a text of one that isn't too long
abbrev pub id_in_text : List ℕ → Option (List ℕ)
id_in_text bytes = if nat_lt MAX_SIZE_REQUEST (length bytes) then None else id_by_reading (reading bytes)

-- ---- replies (sections 4.3.3 and 4.3.4)

abbrev pub type_name : Bool → List ℕ
type_name true = codes "RequestError"
type_name false = codes "Response"

-- `requestId` stands in each refusal, and in a response where the request has an id
abbrev pub request_id : Bool → Option (List ℕ) → Option Data
request_id is_refusal (Some id) = Some (text id)
request_id true None = Some null
request_id false None = None

abbrev pub with_request_id : Option Data → List Pair → List Pair
with_request_id None members = members
with_request_id (Some id) members = with_pair (codes "requestId") id members

-- a response or a problem, as it is sent in reply to a request with this id
abbrev pub marked : Bool → Option (List ℕ) → Data → Data
marked is_refusal id reply = object (members_of (with_request_id (request_id is_refusal id) (with_pair (codes "@type") (text (type_name is_refusal)) (members_in reply))))
