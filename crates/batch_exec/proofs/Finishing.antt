-- What came of a request's invocations is what came of the request.
use Rattle.std.proofs.Common.{◌≡◌, ℕ, ℤ, ◌≤◌, inr, List, [], length, drop, unwrap_or, Result, Ok, Err, sym, ap, ◌∙◌, arith, length-append}
use Rattle.std.proofs.lemmas.List.{length-map}
use Rattle.std.proofs.Math.Seq.{drop-append_seam}
use Rattle.spec_batch.specs.Asked.{asked, asked_by}
use Rattle.spec_batch.specs.Batch.{Step, IsBatch, IsBegun, Progress, created_after, created_by, given_ids, response_with_ids, response_object, responses_in}
use Rattle.spec_json.specs.Data.{Data}
use Rattle.spec_batch.specs.Requests.{id_pair_of}
use Rattle.spec_batch.specs.Chain.{Shown}
use Rattle.spec_batch.specs.declared.desk.Front.{Front}
use Rattle.spec_batch.specs.declared.request.BatchError.{BatchError}
use Rattle.spec_batch.specs.declared.request.BatchError.TheVariants.{Refused, PassSpent, NoMemory}
use Rattle.spec_batch.specs.declared.request.Invocation.{Invocation}
use Rattle.spec_batch.specs.declared.request.Request.{Request}
use Rattle.spec_batch.specs.declared.method_response.MethodResponse.{MethodResponse}
use Rattle.spec_json.specs.declared.tree.Tree.{Tree}
use Rattle.spec_core.specs.declared.user.User.{User}
use Rattle.batch_exec.specs.Answering.{IsRequestAnswered}

-- the created ids behind those that the request gives are the ones that the calls added
pub added_behind : (request : Request) (steps : List Step) (created : List (List ℕ × List ℕ)) → created ≡ created_after request steps
    → drop (length (unwrap_or request.created_ids [])) created ≡ created_by steps
added_behind request steps created is =
    let given = unwrap_or request.created_ids [] in
    ap (drop (length given)) is
    ∙ (ap (λ (n : ℕ). drop n (created_after request steps)) (sym (length-map given id_pair_of)) ∙ drop-append_seam (given_ids request) (created_by steps))

pub given_first : (request : Request) (steps : List Step) (created : List (List ℕ × List ℕ)) → created ≡ created_after request steps
    → length (unwrap_or request.created_ids []) ≤ length created
given_first request steps created is =
    let given = unwrap_or request.created_ids [] in
    let whole = ap length is ∙ length-append (given_ids request) (created_by steps) in
    let count = length-map given id_pair_of in
    omega arith

module _ (user : User) (request : Request) (moment : ℤ) (fronts fronts' : List Front) (s t : Shown) where
  pub answered_whole : (steps : List Step) (responses : List MethodResponse) (created : List (List ℕ × List ℕ)) (d : Data)
      → Progress user request moment fronts fronts' s t steps [] → responses ≡ responses_in steps → created ≡ created_after request steps
      → d ≡ response_with_ids request.created_ids (drop (length (unwrap_or request.created_ids [])) created) responses
      → (all : List Step) × Progress user request moment fronts fronts' s t all [] × (d ≡ response_object request all)
  answered_whole steps responses created d took shown made is = (
    steps,
    took,
    is ∙ (λ k. response_with_ids request.created_ids (added_behind request steps created made k) (shown k)),
  )

  module _ (d : Data) (is_asked : asked_by d ≡ asked request) where
    abbrev begun : (steps : List Step) (rest : List Invocation) (u : Shown) → Progress user request moment fronts fronts' s u steps rest → IsBegun user moment d fronts fronts' s u steps rest
    begun steps rest u progress = record { request = request; is_asked = is_asked; progress = progress }

    pub batch_of_request : (r : Result Tree BatchError) → IsRequestAnswered user request moment fronts fronts' s t r → IsBatch user moment d fronts fronts' s t r
    batch_of_request (Ok tree) x = (x.0, begun x.0 [] t x.1, x.2)
    batch_of_request (Err NoMemory) x = inr (x.0, x.1, x.2, begun x.0 x.1 x.2 x.3, x.4)
    batch_of_request (Err PassSpent) x = (x.0, x.1, x.2, begun x.0 x.1 x.2 x.3, x.4)
    batch_of_request (Err (Refused e)) x = elim x [ ]
