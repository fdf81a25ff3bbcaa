-- What bytes ask for, and what is replied.
use Rattle.std.specs.Prelude.{◌≡◌, ℕ, ℤ, List, [], ◌++◌, length, map, nat_lt, if◌then◌else◌}
use Rattle.spec_core.specs.declared.limits.TheConstants.{MAX_SIZE_REQUEST}
use Rattle.spec_batch.specs.Asked.{Asked, asked, refused, asked_by}
use Rattle.spec_batch.specs.Batch.{Step, Fit, NextMeans, made_in, response_object}
use Rattle.spec_batch.specs.Problem.{problem}
use Rattle.spec_batch.specs.Chain.{Made, Shown, Stops}
use Rattle.spec_json.specs.Data.{Data}
use Rattle.spec_json.specs.Json.{Reading, not_json, not_whole, value, reading}
use Rattle.spec_batch.specs.declared.desk.DeskError.{DeskError}
use Rattle.spec_batch.specs.declared.request.Invocation.{Invocation}
use Rattle.spec_batch.specs.declared.request.Limit.TheVariants.{SizeRequest}
use Rattle.spec_batch.specs.declared.request.Request.{Request}
use Rattle.spec_batch.specs.declared.request.RequestError.TheVariants.{NotJson, NotRequest, Limit}
use Rattle.spec_core.specs.declared.user.User.{User}

abbrev pub asked_by_reading : Reading → Asked
asked_by_reading not_json = refused NotJson
asked_by_reading not_whole = refused NotRequest
asked_by_reading (value d) = asked_by d

-- what bytes ask for
abbrev pub asked_in : List ℕ → Asked
asked_in bytes = if nat_lt MAX_SIZE_REQUEST (length bytes) then refused (Limit SizeRequest) else asked_by_reading (reading bytes)

-- This is the reply to what was asked, for a user at a moment, where these calls were made: the response to a request,
-- each of whose invocations was answered, or the problem that tells why it was refused, with no call.
abbrev pub Replies : User → ℤ → Asked → List Made → Data → Type 0
Replies user moment (asked r) made reply =
    (steps : List Step) × (r.calls ≡ map (λ s. s.invocation) steps) × Fit user r moment [] steps × (made ≡ made_in steps) × (reply ≡ response_object r steps)
Replies user moment (refused e) made reply = (made ≡ []) × (reply ≡ problem e)

-- The first invocations of a request were answered, with these calls; it has no reply. In the state u behind them the desk answered no more, for this reason, and it was left
-- in the state v: it wasn't asked, or for the call that the next invocation means.
pub record BeginsReply (user : User) (moment : ℤ) (what : Asked) (made : List Made) (e : DeskError) (u v : Shown) : Type 0 where
  pub request : Request
  pub is_request : what ≡ asked request
  pub steps : List Step
  pub rest : List Invocation
  pub invoked : request.calls ≡ map (λ s. s.invocation) steps ++ rest
  pub fit : Fit user request moment [] steps
  pub made_is : made ≡ made_in steps
  pub stops : Stops (NextMeans user request moment steps rest) moment e u v
