-- What an invocation means, and what came of it, are a step.
use Rattle.std.proofs.Common.{◌≡◌, ℕ, ℤ, inl, inr, List, ◌++◌, Some, None, Result, Ok, Err, refl, sym, ◌∙◌, subst, append-nil}
use Rattle.spec_batch.specs.Batch.{Step, FollowsFrom, reply_response}
use Rattle.spec_batch.proofs.Chains.{stop_of}
use Rattle.spec_batch.specs.Meaning.{Meaning, calls}
use Rattle.spec_batch.specs.Chain.{Made, Shown}
use Rattle.spec_calls.specs.declared.call.Call.{Call}
use Rattle.spec_batch.specs.declared.desk.DeskError.{DeskError}
use Rattle.spec_batch.specs.declared.desk.DeskError.TheVariants.{NoMemory, PassSpent}
use Rattle.spec_batch.specs.declared.desk.Front.{Front}
use Rattle.spec_batch.specs.declared.request.Invocation.{Invocation}
use Rattle.spec_batch.specs.declared.method_response.MethodResponse.{MethodResponse}
use Rattle.spec_core.specs.declared.user.Grant.{Grant}
use Rattle.batch_exec.specs.Stepping.{AnswersCall, HasNoStep, IsCallResponse, IsNotAnswered, IsResponse, Takes, meant}
use Rattle.batch_exec.proofs.Asking.{unasked}

module _ (grants : List Grant) (using : List (List ℕ)) (moment : ℤ) (responses : List MethodResponse) (created created' : List (List ℕ × List ℕ)) (c : Invocation) where
  abbrev meaning : Meaning
  meaning = meant grants using responses created c

  -- no account was asked
  pub responds_itself : (fronts : List Front) (s : Shown) (m : Meaning) (response : MethodResponse) → m ≡ meaning → created' ≡ created
      → FollowsFrom moment m (record { invocation = c; made = None; response = response })
      → IsResponse fronts fronts s s grants using moment responses created created' c (Ok response)
  responds_itself fronts s m response is same follows =
      let step : Step = record { invocation = c; made = None; response = response } in (
        step,
        record { invocation = refl; follows = subst (λ (n : Meaning). FollowsFrom moment n step) is follows; makes = unasked refl refl },
        same ∙ sym (append-nil created),
        refl,
      )

  module _ (fronts fronts' : List Front) (s t : Shown) (account : ℕ) (call : Call) where
    takes_call : (m : Made) (response : MethodResponse) → calls account call ≡ meaning → AnswersCall fronts fronts' s t account call moment m → response ≡ reply_response c.name c.call_id m.reply.arguments m.reply.error
        → Takes fronts fronts' s t grants using moment responses created created' c (record { invocation = c; made = Some m; response = response })
    takes_call m response is answers shows =
        let step : Step = record { invocation = c; made = Some m; response = response } in
        record {
          invocation = refl;
          follows = subst (λ (n : Meaning). FollowsFrom moment n step) is (m, refl, answers.on_account, answers.asked, answers.at_moment, shows);
          makes = answers.makes;
        }

    takes_none : (e : DeskError) → calls account call ≡ meaning → IsNotAnswered fronts fronts' s t account call moment e → HasNoStep fronts fronts' s t grants using moment responses created created' c e
    takes_none e is none = (none.0, stop_of (λ k x. (k ≡ account) × (x ≡ call)) (λ k x. meaning ≡ calls k x) moment e s t (λ k x same. sym is ∙ (λ i. calls (sym same.0 i) (sym same.1 i))) none.1)

    -- an account was asked
    pub responds_from_account : (r : Result MethodResponse DeskError) → calls account call ≡ meaning → call.created ≡ created
        → IsCallResponse fronts fronts' s t account call moment c.name c.call_id created' r → IsResponse fronts fronts' s t grants using moment responses created created' c r
    responds_from_account (Ok response) is same x =
        let m = x.0 in (
          record { invocation = c; made = Some m; response = response },
          takes_call m response is x.1 x.3,
          x.2 ∙ (λ k. same k ++ sym (append-nil m.reply.created) k),
          refl,
        )
    responds_from_account (Err NoMemory) is same (inl none) = inl (takes_none NoMemory is none)
    responds_from_account (Err NoMemory) is same (inr x) =
        let m = x.0 in
        let response = reply_response c.name c.call_id m.reply.arguments m.reply.error in
        inr (record { invocation = c; made = Some m; response = response }, takes_call m response is x.1 refl)
    responds_from_account (Err PassSpent) is same x = takes_none PassSpent is x
