-- The responses to a request, each determined by the steps before it (RFC 8620 sections 3.2 to 3.7).
use Rattle.std.specs.Prelude.{◌≡◌, ℕ, ◌⊎◌, ℤ, List, [], ◌∷◌, ◌++◌, Option, Some, None, codes, flat_map, map, unwrap_or, Result, Ok, Err}
use Rattle.spec_batch.specs.Asked.{asked, refused, asked_by}
use Rattle.spec_json.specs.Data.{Data, text, list, object, Pair, items_of, members_of}
use Rattle.spec_json.specs.Edit.{put_all}
use Rattle.spec_batch.specs.Meaning.{Meaning, refuses, echoes, calls, meaning_of_method}
use Rattle.spec_calls.specs.Methods.{method_used}
use Rattle.spec_json.specs.Parts.{some_of}
use Rattle.spec_batch.specs.Requests.{id_pair_of}
use Rattle.spec_batch.specs.Chain.{Made, Shown, Chain, Stops, front_of}
use Rattle.spec_json.specs.TreeData.{data_of}
use Rattle.spec_calls.specs.declared.call.Call.{Call}
use Rattle.spec_calls.specs.declared.call.MethodError.{MethodError}
use Rattle.spec_calls.specs.declared.call.MethodError.TheVariants.{UnknownMethod, InvalidArguments, InvalidResultReference, AccountNotFound, AccountReadOnly, RequestTooLarge, StateMismatch, UnsupportedFilter, UnsupportedSort, AnchorNotFound, NotFound, CannotCalculateChanges, TooManyChanges, ServerFail}
use Rattle.spec_batch.specs.declared.desk.DeskError.{DeskError}
use Rattle.spec_batch.specs.declared.desk.DeskError.TheVariants as reason
use Rattle.spec_batch.specs.declared.desk.Front.{Front}
use Rattle.spec_batch.specs.declared.request.BatchError.{BatchError}
use Rattle.spec_batch.specs.declared.request.BatchError.TheVariants.{Refused, PassSpent, NoMemory}
use Rattle.spec_batch.specs.declared.request.Invocation.{Invocation}
use Rattle.spec_batch.specs.declared.request.Request.{Request}
use Rattle.spec_batch.specs.declared.method_response.MethodResponse.{MethodResponse}
use Rattle.spec_json.specs.declared.tree.Tree.{Tree}
use Rattle.spec_json.specs.declared.tree.Tree.TheVariants.{Object}
use Rattle.spec_core.specs.declared.user.User.{User}

-- An invocation, the call on an account that the desk answered for it, if it led to one, and its response.
pub record Step : Type 0 where
  pub invocation : Invocation
  pub made : Option Made
  pub response : MethodResponse

abbrev pub made_in : List Step → List Made
made_in steps = flat_map (λ s. some_of s.made) steps

-- the created ids that the calls added
abbrev pub created_by : List Step → List (List ℕ × List ℕ)
created_by steps = flat_map (λ m. m.reply.created) (made_in steps)

abbrev pub responses_in : List Step → List MethodResponse
responses_in steps = map (λ s. s.response) steps

abbrev pub error_type : MethodError → List ℕ
error_type UnknownMethod = codes "unknownMethod"
error_type InvalidArguments = codes "invalidArguments"
error_type InvalidResultReference = codes "invalidResultReference"
error_type AccountNotFound = codes "accountNotFound"
error_type AccountReadOnly = codes "accountReadOnly"
error_type RequestTooLarge = codes "requestTooLarge"
error_type StateMismatch = codes "stateMismatch"
error_type UnsupportedFilter = codes "unsupportedFilter"
error_type UnsupportedSort = codes "unsupportedSort"
error_type AnchorNotFound = codes "anchorNotFound"
error_type NotFound = codes "notFound"
error_type CannotCalculateChanges = codes "cannotCalculateChanges"
error_type TooManyChanges = codes "tooManyChanges"
error_type ServerFail = codes "serverFail"

-- RFC 8620 section 3.4
abbrev pub response_with : List ℕ → List ℕ → Tree → MethodResponse
response_with name call_id arguments = record { name = name; arguments = arguments; call_id = call_id }

-- RFC 8620 section 3.6.2
abbrev pub error_response : List ℕ → MethodError → MethodResponse
error_response call_id e = response_with (codes "error") call_id (Object ((codes "type", text (error_type e)) ∷ []))

abbrev pub reply_response : List ℕ → List ℕ → Tree → Option MethodError → MethodResponse
reply_response name call_id arguments None = response_with name call_id arguments
reply_response name call_id arguments (Some e) = error_response call_id e

-- the response is what the invocation means, and the desk was called where it means a call
abbrev pub FollowsFrom : ℤ → Meaning → Step → Type 0
FollowsFrom moment (refuses e) s = (s.made ≡ None) × (s.response ≡ error_response s.invocation.call_id e)
FollowsFrom moment (echoes arguments) s = (s.made ≡ None) × (s.response ≡ response_with s.invocation.name s.invocation.call_id (Object arguments))
FollowsFrom moment (calls account call) s =
    (m : Made) × (s.made ≡ Some m) × (m.account ≡ account) × (m.call ≡ call) × (m.moment ≡ moment)
    × (s.response ≡ reply_response s.invocation.name s.invocation.call_id m.reply.arguments m.reply.error)

-- a creation id and the id that the object got, as a request gives them
abbrev pub id_member : List ℕ × List ℕ → Pair
id_member p = (p.0, text p.1)

abbrev pub given_ids : Request → List (List ℕ × List ℕ)
given_ids request = map id_pair_of (unwrap_or request.created_ids [])

-- the created ids of a request after some steps: those that it gives, and those that the calls added
abbrev pub created_after : Request → List Step → List (List ℕ × List ℕ)
created_after request steps = given_ids request ++ created_by steps

module _ (user : User) (request : Request) (moment : ℤ) where
  abbrev pub meaning_after : List Step → Invocation → Meaning
  meaning_after steps c = meaning_of_method user.grants (created_after request steps) (responses_in steps) c.arguments (method_used request.using c.name)

  -- Each step follows from what its invocation means after the steps before it.
  abbrev pub Fit : List Step → List Step → Type 0
  Fit before [] = Unit {0}
  Fit before (s ∷ ss) = FollowsFrom moment (meaning_after before s.invocation) s × Fit (before ++ s ∷ []) ss

  -- the first of the invocations that are left means this call, behind these steps
  abbrev pub NextMeans : List Step → List Invocation → ℕ → Call → Type 0
  NextMeans before [] account call = ⊥
  NextMeans before (c ∷ cs) account call = meaning_after before c ≡ calls account call

  -- The first invocations led to these steps, which are in a chain from one state of the desk to another.
  pub record Progress (fronts fronts' : List Front) (s t : Shown) (steps : List Step) (rest : List Invocation) : Type 0 where
    pub invoked : request.calls ≡ map (λ st. st.invocation) steps ++ rest
    pub fit : Fit [] steps
    pub chain : Chain s t (made_in steps)
    pub fronts_grew : fronts' ≡ fronts ++ map front_of (made_in steps)

abbrev pub response_data : MethodResponse → Data
response_data r = list (items_of (text r.name ∷ data_of r.arguments ∷ text r.call_id ∷ []))

-- the created ids that a request gives, with those that the calls added in the place of ones of the same key
abbrev pub created_object : List Pair → List (List ℕ × List ℕ) → List Pair
created_object given added = put_all (put_all (map id_member added) []) given

abbrev pub created_ids_member : Option (List Pair) → List (List ℕ × List ℕ) → List Pair
created_ids_member None added = []
created_ids_member (Some given) added = (codes "createdIds", object (members_of (created_object given added))) ∷ []

-- the response to a request that gives these created ids, where calls added those (RFC 8620 section 3.4)
abbrev pub response_with_ids : Option (List Pair) → List (List ℕ × List ℕ) → List MethodResponse → Data
response_with_ids given added responses = object (members_of (
    created_ids_member given added
    ++ (codes "methodResponses", list (items_of (map response_data responses))) ∷ (codes "sessionState", text (codes "1")) ∷ []))

abbrev pub response_object : Request → List Step → Data
response_object r steps = response_with_ids r.created_ids (created_by steps) (responses_in steps)

-- d is a request whose first invocations were answered, and these are left
pub record IsBegun (user : User) (moment : ℤ) (d : Data) (fronts fronts' : List Front) (s t : Shown) (steps : List Step) (rest : List Invocation) : Type 0 where
  pub request : Request
  pub is_asked : asked_by d ≡ asked request
  pub progress : Progress user request moment fronts fronts' s t steps rest

module _ (user : User) (moment : ℤ) (d : Data) (fronts fronts' : List Front) (s t : Shown) where
  abbrev pub IsUntouched : Type 0
  IsUntouched = (t ≡ s) × (fronts' ≡ fronts)

  -- The first invocations were answered, and in the state that they left the desk answered no more: it wasn't asked, or for the call that the next invocation means.
  abbrev pub IsStopped : DeskError → Type 0
  IsStopped e =
      (steps : List Step) × (rest : List Invocation) × (u : Shown) × (begun : IsBegun user moment d fronts fronts' s u steps rest)
      × Stops (NextMeans user begun.request moment steps rest) moment e u t

  -- What answering d does. All invocations are answered, or none since the whole is refused, or the first ones since the desk makes no more calls or memory runs out.
  abbrev pub IsBatch : Result Tree BatchError → Type 0
  IsBatch (Ok tree) = (steps : List Step) × (begun : IsBegun user moment d fronts fronts' s t steps []) × (data_of tree ≡ response_object begun.request steps)
  IsBatch (Err (Refused e)) = (asked_by d ≡ refused e) × IsUntouched
  IsBatch (Err PassSpent) = IsStopped reason.PassSpent
  IsBatch (Err NoMemory) = IsUntouched ⊎ IsStopped reason.NoMemory
