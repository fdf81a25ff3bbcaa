-- What one invocation of a request leads to.
use Rattle.std.specs.Prelude.{◌≡◌, ℕ, ◌⊎◌, ℤ, List, [], ◌∷◌, ◌++◌, map, Result, Ok, Err}
use Rattle.spec_batch.specs.Batch.{Step, FollowsFrom, created_by, reply_response}
use Rattle.spec_batch.specs.Meaning.{Meaning, calls, meaning_of_method}
use Rattle.spec_calls.specs.Methods.{method_used}
use Rattle.spec_json.specs.Parts.{some_of}
use Rattle.spec_batch.specs.Chain.{Made, Shown, Chain, Stops, front_of}
use Rattle.spec_calls.specs.declared.call.Call.{Call}
use Rattle.spec_calls.specs.declared.call.Reply.{Reply}
use Rattle.spec_batch.specs.declared.desk.DeskError.{DeskError}
use Rattle.spec_batch.specs.declared.desk.DeskError.TheVariants.{PassSpent, NoMemory}
use Rattle.spec_batch.specs.declared.desk.Front.{Front}
use Rattle.spec_batch.specs.declared.request.Invocation.{Invocation}
use Rattle.spec_batch.specs.declared.method_response.MethodResponse.{MethodResponse}
use Rattle.spec_core.specs.declared.user.Grant.{Grant}

-- what an invocation means, by the responses and the created ids before it
abbrev pub meant : List Grant → List (List ℕ) → List MethodResponse → List (List ℕ × List ℕ) → Invocation → Meaning
meant grants using responses created c = meaning_of_method grants created responses c.arguments (method_used using c.name)

module _ (fronts fronts' : List Front) (s t : Shown) where
  -- these calls were answered, each with a front
  pub record Makes (ms : List Made) : Type 0 where
    pub chain : Chain s t ms
    pub fronts_grew : fronts' ≡ fronts ++ map front_of ms

  -- the desk wasn't asked, or for one of these calls, and answered none
  abbrev pub HasNoAnswer : (ℕ → Call → Type 0) → ℤ → DeskError → Type 0
  HasNoAnswer these moment e = (fronts' ≡ fronts) × Stops these moment e s t

  module _ (account : ℕ) (call : Call) (moment : ℤ) where
    -- this call was answered
    pub record AnswersCall (m : Made) : Type 0 where
      pub makes : Makes (m ∷ [])
      pub on_account : m.account ≡ account
      pub asked : m.call ≡ call
      pub at_moment : m.moment ≡ moment

    -- the desk wasn't asked, or for this call, and didn't answer it
    abbrev pub IsNotAnswered : DeskError → Type 0
    IsNotAnswered e = HasNoAnswer (λ k c. (k ≡ account) × (c ≡ call)) moment e

    abbrev pub IsDeskReply : Result Reply DeskError → Type 0
    IsDeskReply (Ok reply) = (m : Made) × AnswersCall m × (m.reply ≡ reply)
    IsDeskReply (Err e) = IsNotAnswered e

    -- the call's response and the created ids after it; or the call wasn't answered, or only its response is wanting
    abbrev pub IsCallResponse : List ℕ → List ℕ → List (List ℕ × List ℕ) → Result MethodResponse DeskError → Type 0
    IsCallResponse name call_id created' (Ok response) = (m : Made) × AnswersCall m × (created' ≡ call.created ++ m.reply.created) × (response ≡ reply_response name call_id m.reply.arguments m.reply.error)
    IsCallResponse name call_id created' (Err NoMemory) = IsNotAnswered NoMemory ⊎ ((m : Made) × AnswersCall m)
    IsCallResponse name call_id created' (Err PassSpent) = IsNotAnswered PassSpent

  module _ (grants : List Grant) (using : List (List ℕ)) (moment : ℤ) (responses : List MethodResponse) (created created' : List (List ℕ × List ℕ)) (c : Invocation) where
    -- the desk wasn't asked, or for the call that the invocation means, and didn't answer it
    abbrev pub HasNoStep : DeskError → Type 0
    HasNoStep e = HasNoAnswer (λ account call. meant grants using responses created c ≡ calls account call) moment e

    -- the invocation led to this step, by the responses and the created ids before it
    pub record Takes (step : Step) : Type 0 where
      pub invocation : step.invocation ≡ c
      pub follows : FollowsFrom moment (meant grants using responses created c) step
      pub makes : Makes (some_of step.made)

    -- the response to the invocation and the created ids after it; or the step isn't taken, or only its response is wanting
    abbrev pub IsResponse : Result MethodResponse DeskError → Type 0
    IsResponse (Ok response) = (step : Step) × Takes step × (created' ≡ created ++ created_by (step ∷ [])) × (step.response ≡ response)
    IsResponse (Err NoMemory) = HasNoStep NoMemory ⊎ ((step : Step) × Takes step)
    IsResponse (Err PassSpent) = HasNoStep PassSpent
