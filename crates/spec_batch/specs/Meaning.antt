-- What an invocation of a request means: an error, an answer without an account, or a call on an account (RFC 8620 sections 3.6.2 and 3.7).
use Rattle.std.specs.Prelude.{ℕ, List, [], ◌∷◌, ◌&&◌, Bool, Option, Some, None, codes, length, nat_lt, sum_by, if◌then◌else◌}
use Rattle.std.specs.Str.{bytes_eq}
use Rattle.spec_calls.specs.Asking.{text_argument}
use Rattle.spec_json.specs.Data.{Pair}
use Rattle.spec_json.specs.Json.{text_of}
use Rattle.spec_json.specs.TreeData.{data_of}
use Rattle.spec_calls.specs.Methods.{are_well_given, call_of, row}
use Rattle.spec_batch.specs.References.{Resolution, too_many, both_forms, bad_reference, too_large, resolved, resolution}
use Rattle.spec_calls.specs.declared.call.Call.{Call}
use Rattle.spec_calls.specs.declared.call.MethodError.{MethodError}
use Rattle.spec_calls.specs.declared.call.MethodError.TheVariants.{UnknownMethod, InvalidArguments, InvalidResultReference, AccountNotFound, AccountReadOnly, RequestTooLarge}
use Rattle.spec_calls.specs.declared.method.Method.{Method}
use Rattle.spec_batch.specs.declared.limits.TheConstants.{MAX_RESPONSES_BYTES}
use Rattle.spec_batch.specs.declared.method_response.MethodResponse.{MethodResponse}
use Rattle.spec_core.specs.declared.user.Grant.{Grant}

-- what an invocation comes to: an error, its own arguments, or a call on an account
pub data Meaning : Type 0 where
  refuses : MethodError → Meaning
  echoes : List Pair → Meaning
  calls : ℕ → Call → Meaning

-- the bytes of the compact texts of the arguments of these responses
abbrev pub size_of_responses : List MethodResponse → ℕ
size_of_responses rs = sum_by (λ r. length (text_of (data_of r.arguments))) rs

-- they are so many that no call more is answered
abbrev pub are_full : List MethodResponse → Bool
are_full responses = nat_lt MAX_RESPONSES_BYTES (size_of_responses responses)

-- the grant of an account of this id
abbrev pub grant_of : List ℕ → List Grant → Option Grant
grant_of id [] = None
grant_of id (g ∷ gs) = if bytes_eq g.id id then Some g else grant_of id gs

abbrev pub meaning_on : Method → Call → Option Grant → Meaning
meaning_on m call None = refuses AccountNotFound
meaning_on m call (Some g) = if g.read_only && (row m).is_set then refuses AccountReadOnly else calls g.account call

-- the call of a method on one of these accounts; `Core/echo` has none (RFC 8620 section 4)
abbrev pub meaning_of_call : List Grant → Method → List Pair → Option Call → Meaning
meaning_of_call grants m arguments None = echoes arguments
meaning_of_call grants m arguments (Some call) = meaning_on m call (grant_of (text_argument arguments (codes "accountId")) grants)

module _ (grants : List Grant) (created : List (List ℕ × List ℕ)) where
  abbrev pub meaning_of_arguments : Method → Resolution → Meaning
  meaning_of_arguments m too_many = refuses RequestTooLarge
  meaning_of_arguments m both_forms = refuses InvalidArguments
  meaning_of_arguments m bad_reference = refuses InvalidResultReference
  meaning_of_arguments m (too_large size) = refuses RequestTooLarge
  meaning_of_arguments m (resolved arguments) =
      if are_well_given m arguments then meaning_of_call grants m arguments (call_of arguments created m) else refuses InvalidArguments

  abbrev pub meaning_of_method : List MethodResponse → List Pair → Option Method → Meaning
  meaning_of_method responses arguments None = refuses UnknownMethod
  meaning_of_method responses arguments (Some m) = if are_full responses then refuses RequestTooLarge else meaning_of_arguments m (resolution responses arguments)
