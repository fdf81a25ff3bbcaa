-- One more step of a request.
use Rattle.std.proofs.Common.{◌≡◌, ℕ, ℤ, inl, inr, List, [], ◌∷◌, ◌++◌, map, flat_map, Result, Ok, Err, refl, sym, ap, ◌∙◌, subst, append-nil, append_assoc}
use Rattle.std.proofs.lemmas.Grind.{flat_map-append}
use Rattle.std.proofs.lemmas.List.{map-append}
use Rattle.spec_batch.proofs.Chains.{join, still, stop_of}
use Rattle.spec_batch.specs.Batch.{Step, Fit, FollowsFrom, Progress, NextMeans, created_by, given_ids, made_in, meaning_after}
use Rattle.spec_batch.specs.Meaning.{Meaning, calls, meaning_of_method}
use Rattle.spec_calls.specs.Methods.{method_used}
use Rattle.spec_json.specs.Parts.{some_of}
use Rattle.spec_batch.specs.Chain.{Made, Chain, Shown, front_of}
use Rattle.spec_batch.specs.declared.desk.DeskError.{DeskError}
use Rattle.spec_batch.specs.declared.desk.DeskError.TheVariants.{NoMemory, PassSpent}
use Rattle.spec_batch.specs.declared.desk.Front.{Front}
use Rattle.spec_batch.specs.declared.request.Invocation.{Invocation}
use Rattle.spec_batch.specs.declared.request.Request.{Request}
use Rattle.spec_batch.specs.declared.method_response.MethodResponse.{MethodResponse}
use Rattle.spec_core.specs.declared.user.User.{User}
use Rattle.batch_exec.specs.Answering.{Going, HasStopped, HasAnswered}
use Rattle.batch_exec.specs.Stepping.{IsResponse, HasNoStep, Takes, meant}

module _ (user : User) (request : Request) (moment : ℤ) where
  abbrev follows_after : List Step → Step → Type 0
  follows_after before s = FollowsFrom moment (meaning_after user request moment before s.invocation) s

  fit_more : (before steps : List Step) (s : Step) → Fit user request moment before steps → follows_after (before ++ steps) s → Fit user request moment before (steps ++ s ∷ [])
  fit_more before [] s fit follows = (subst (λ (b : List Step). follows_after b s) (append-nil before) follows, tt)
  fit_more before (x ∷ xs) s fit follows = (fit.0, fit_more (before ++ x ∷ []) xs s fit.1 (subst (λ (b : List Step). follows_after b s) (sym (append_assoc before (x ∷ []) xs)) follows))

  made_more : (steps : List Step) (s : Step) → made_in (steps ++ s ∷ []) ≡ made_in steps ++ some_of s.made
  made_more steps s = flat_map-append (λ (x : Step). some_of x.made) steps (s ∷ []) ∙ ap (λ (ms : List Made). made_in steps ++ ms) (append-nil (some_of s.made))

  created_more : (steps : List Step) (s : Step) → created_by (steps ++ s ∷ []) ≡ created_by steps ++ created_by (s ∷ [])
  created_more steps s =
      ap (λ (ms : List Made). flat_map (λ (m : Made). m.reply.created) ms) (flat_map-append (λ (x : Step). some_of x.made) steps (s ∷ []))
      ∙ flat_map-append (λ (m : Made). m.reply.created) (made_in steps) (made_in (s ∷ []))

  module _ (fronts fronts1 fronts2 : List Front) (s t u : Shown) (steps : List Step) (c : Invocation) (rest : List Invocation) where
    means_after : (responses : List MethodResponse) (created : List (List ℕ × List ℕ)) → Going user request moment fronts fronts1 s t steps (c ∷ rest) responses created
        → meant user.grants request.using responses created c ≡ meaning_after user request moment steps c
    means_after responses created g = λ i. meaning_of_method user.grants (g.created_are i) (g.responses_are i) c.arguments (method_used request.using c.name)

    -- the first of the invocations that are left led to one more step
    progress_more : (responses : List MethodResponse) (created created' : List (List ℕ × List ℕ)) (step : Step)
        → Going user request moment fronts fronts1 s t steps (c ∷ rest) responses created
        → Takes fronts1 fronts2 t u user.grants request.using moment responses created created' c step
        → Progress user request moment fronts fronts2 s u (steps ++ step ∷ []) rest
    progress_more responses created created' step g k =
        let p = g.progress in
        let made = made_more steps step in
        let follows : follows_after steps step =
        subst (λ (d : Invocation). FollowsFrom moment (meaning_after user request moment steps d) step) (sym k.invocation)
        (subst (λ (n : Meaning). FollowsFrom moment n step) (means_after responses created g) k.follows) in
        record {
          invoked = p.invoked ∙ (ap (λ (d : Invocation). map (λ (x : Step). x.invocation) steps ++ d ∷ rest) (sym k.invocation)
              ∙ (sym (append_assoc (map (λ (x : Step). x.invocation) steps) (step.invocation ∷ []) rest) ∙ ap (λ (is : List Invocation). is ++ rest) (sym (map-append (λ (x : Step). x.invocation) steps (step ∷ [])))));
          fit = fit_more [] steps step p.fit follows;
          chain = subst (Chain s u) (sym made) (join s t u (made_in steps) (some_of step.made) p.chain k.makes.chain);
          fronts_grew = k.makes.fronts_grew ∙ (ap (λ (fs : List Front). fs ++ map front_of (some_of step.made)) p.fronts_grew
              ∙ (append_assoc fronts (map front_of (made_in steps)) (map front_of (some_of step.made))
              ∙ ap (λ (fs : List Front). fronts ++ fs) (sym (ap (map front_of) made ∙ map-append front_of (made_in steps) (some_of step.made)))));
        }

    going_more : (responses : List MethodResponse) (created created' : List (List ℕ × List ℕ)) (response : MethodResponse)
        → Going user request moment fronts fronts1 s t steps (c ∷ rest) responses created
        → (x : (step : Step) × Takes fronts1 fronts2 t u user.grants request.using moment responses created created' c step × (created' ≡ created ++ created_by (step ∷ [])) × (step.response ≡ response))
        → Going user request moment fronts fronts2 s u (steps ++ x.0 ∷ []) rest (responses ++ response ∷ []) created'
    going_more responses created created' response g x =
        let step = x.0 in
        record {
          progress = progress_more responses created created' step g x.1;
          responses_are = (λ k. g.responses_are k ++ sym x.3 k ∷ []) ∙ sym (map-append (λ (y : Step). y.response) steps (step ∷ []));
          created_are = x.2 ∙ (ap (λ (ps : List (List ℕ × List ℕ)). ps ++ created_by (step ∷ [])) g.created_are
              ∙ (append_assoc (given_ids request) (created_by steps) (created_by (step ∷ [])) ∙ ap (λ (ps : List (List ℕ × List ℕ)). given_ids request ++ ps) (sym (created_more steps step))));
        }

    -- nothing came of the first of the invocations that are left
    stopped_same : (responses : List MethodResponse) (created created' : List (List ℕ × List ℕ)) (e : DeskError) → Going user request moment fronts fronts1 s t steps (c ∷ rest) responses created
        → HasNoStep fronts1 fronts2 t u user.grants request.using moment responses created created' c e → HasStopped user request moment fronts fronts2 s u e
    stopped_same responses created created' e g k =
        let p = g.progress in
        let next = stop_of (λ account call. meant user.grants request.using responses created c ≡ calls account call) (NextMeans user request moment steps (c ∷ rest)) moment e t u (λ account call is. sym (means_after responses created g) ∙ is) k.1 in
        (steps, c ∷ rest, t, record { invoked = p.invoked; fit = p.fit; chain = p.chain; fronts_grew = k.0 ∙ p.fronts_grew }, next)

    stopped_more : (responses : List MethodResponse) (created created' : List (List ℕ × List ℕ)) (step : Step)
        → Going user request moment fronts fronts1 s t steps (c ∷ rest) responses created
        → Takes fronts1 fronts2 t u user.grants request.using moment responses created created' c step → HasStopped user request moment fronts fronts2 s u NoMemory
    stopped_more responses created created' step g k = (steps ++ step ∷ [], rest, u, progress_more responses created created' step g k, inl (refl, refl))

    -- what comes of the first of the invocations that are left
    abbrev pub GoesOn : List MethodResponse → List (List ℕ × List ℕ) → Result MethodResponse DeskError → Type 0
    GoesOn responses created' (Ok response) = (all : List Step) × Going user request moment fronts fronts2 s u all rest (responses ++ response ∷ []) created'
    GoesOn responses created' (Err e) = HasAnswered user request moment fronts fronts2 s u (Err e)

    goes_on_with : (responses : List MethodResponse) (created created' : List (List ℕ × List ℕ)) (r : Result MethodResponse DeskError)
        → Going user request moment fronts fronts1 s t steps (c ∷ rest) responses created
        → IsResponse fronts1 fronts2 t u user.grants request.using moment responses created created' c r → GoesOn responses created' r
    goes_on_with responses created created' (Ok response) g x = (steps ++ x.0 ∷ [], going_more responses created created' response g x)
    goes_on_with responses created created' (Err NoMemory) g (inl k) = stopped_same responses created created' NoMemory g k
    goes_on_with responses created created' (Err NoMemory) g (inr k) = stopped_more responses created created' k.0 g k.1
    goes_on_with responses created created' (Err PassSpent) g k = stopped_same responses created created' PassSpent g k

    pub goes_on : (using : List (List ℕ)) (responses responses' : List MethodResponse) (created created' : List (List ℕ × List ℕ)) (r : Result MethodResponse DeskError)
        → using ≡ request.using → responses' ≡ responses → Going user request moment fronts fronts1 s t steps (c ∷ rest) responses created
        → IsResponse fronts1 fronts2 t u user.grants using moment responses' created created' c r → GoesOn responses created' r
    goes_on using responses responses' created created' r same_using same_responses g x =
        goes_on_with responses created created' r g
        (subst (λ (y : List (List ℕ) × List MethodResponse). IsResponse fronts1 fronts2 t u user.grants y.0 moment y.1 created created' c r) (λ i. (same_using i, same_responses i)) x)

  -- before the first invocation
  pub going_first : (fronts : List Front) (s : Shown) (left : List Invocation) (responses : List MethodResponse) (created : List (List ℕ × List ℕ))
      → left ≡ request.calls → responses ≡ [] → created ≡ given_ids request → Going user request moment fronts fronts s s [] left responses created
  going_first fronts s left responses created all none given = record {
    progress = record { invoked = sym all; fit = tt; chain = still s; fronts_grew = sym (append-nil fronts) };
    responses_are = none;
    created_are = given ∙ sym (append-nil (given_ids request));
  }

  -- no step was taken
  pub stopped_first : (fronts : List Front) (s : Shown) → HasStopped user request moment fronts fronts s s NoMemory
  stopped_first fronts s = ([], request.calls, s, record { invoked = refl; fit = tt; chain = still s; fronts_grew = sym (append-nil fronts) }, inl (refl, refl))
