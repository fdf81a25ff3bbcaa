-- How many calls a request makes: at most 16, with one that isn't answered.
use Rattle.std.proofs.Common.{◌≡◌, ℤ, ◌+◌, ◌≤◌, List, [], ◌∷◌, ◌++◌, Bool, true, false, Option, Some, None, inl, inr, length, length-append, map, ap, ◌∙◌, refl, subst, arith, true≢false}
use Rattle.std.proofs.lemmas.Bool.Decides.{nat_tests}
use Rattle.std.proofs.lemmas.List.{length-map}
use Rattle.std.specs.List.{list_all}
use Rattle.std.specs.Prelude.{if◌then◌else◌, not, nat_lt}
use Rattle.spec_batch.specs.Asked.{Asked, asked, asked_by, checked, is_refused, refused}
use Rattle.spec_batch.specs.Batch.{NextMeans, Step, made_in}
use Rattle.spec_batch.specs.Chain.{Made, Shown, Stops}
use Rattle.spec_batch.specs.Requests.{request_of}
use Rattle.spec_batch.specs.declared.desk.DeskError.{DeskError}
use Rattle.spec_batch.specs.declared.desk.DeskError.TheVariants.{PassSpent, NoMemory}
use Rattle.spec_batch.specs.declared.request.Invocation.{Invocation}
use Rattle.spec_batch.specs.declared.request.Limit.TheVariants.{CallsInRequest}
use Rattle.spec_batch.specs.declared.request.Request.{Request}
use Rattle.spec_batch.specs.declared.request.RequestError.{RequestError}
use Rattle.spec_batch.specs.declared.request.RequestError.TheVariants.{Limit, UnknownCapability}
use Rattle.spec_core.specs.Capabilities.{is_capability}
use Rattle.spec_core.specs.declared.limits.TheConstants.{MAX_CALLS_IN_REQUEST}
use Rattle.spec_core.specs.declared.user.User.{User}
use Rattle.spec_json.specs.Data.{Data}
use Rattle.spec_json.specs.Parts.{some_of}

few_if : (all many : Bool) (e f : RequestError) (x r : Request) → (if not all then refused e else if many then refused f else asked x) ≡ asked r → (many ≡ false) × (asked x ≡ asked r)
few_if false many e f x r is = absurd (true≢false (ap is_refused is))
few_if true true e f x r is = absurd (true≢false (ap is_refused is))
few_if true false e f x r is = (refl, is)

abbrev request_in : Request → Asked → Request
request_in d (asked r) = r
request_in d (refused e) = d

few_checked : (o : Option Request) (r : Request) → checked o ≡ asked r → length r.calls ≤ MAX_CALLS_IN_REQUEST
few_checked None r is = absurd (true≢false (ap is_refused is))
few_checked (Some x) r is =
    let parts = few_if (list_all is_capability x.using) (nat_lt MAX_CALLS_IN_REQUEST (length x.calls)) UnknownCapability (Limit CallsInRequest) x r is in
    let same : x ≡ r = ap (request_in x) parts.1 in
    let few : nat_lt MAX_CALLS_IN_REQUEST (length x.calls) ≡ false = parts.0 in
    let most : length x.calls ≤ MAX_CALLS_IN_REQUEST = search (arith, nat_tests, few) in
    subst (λ (y : Request). length y.calls ≤ MAX_CALLS_IN_REQUEST) same most

-- a request has few calls
pub few_asked : (d : Data) (r : Request) → asked_by d ≡ asked r → length r.calls ≤ MAX_CALLS_IN_REQUEST
few_asked d r is = few_checked (request_of d) r is

some_few : (o : Option Made) → length (some_of o) ≤ 1
some_few None = omega arith
some_few (Some m) = omega arith

-- each step makes one call at most
pub made_few : (steps : List Step) → length (made_in steps) ≤ length steps
made_few [] = omega arith
made_few (s ∷ ss) = (let e = length-append (some_of s.made) (made_in ss) in let one = some_few s.made in let rest = made_few ss in omega arith)

module _ (r : Request) (steps : List Step) (rest : List Invocation) (invoked : r.calls ≡ map (λ s. s.invocation) steps ++ rest) where
  -- what was called, and what is left, is no more than the request's calls
  pub few_calls : length (made_in steps) + length rest ≤ length r.calls
  few_calls =
      let each = made_few steps in
      let whole = ap length invoked ∙ length-append (map (λ (s : Step). s.invocation) steps) rest in
      let count = length-map steps (λ (s : Step). s.invocation) in
      omega arith

module _ (user : User) (r : Request) (moment : ℤ) (steps : List Step) (u v : Shown) where
  -- with the call that wasn't answered, a desk that answered no more made no more calls than there are
  pub few_stopped : (rest : List Invocation) (e : DeskError) → r.calls ≡ map (λ s. s.invocation) steps ++ rest
      → Stops (NextMeans user r moment steps rest) moment e u v → v.turns + length (made_in steps) ≤ u.turns + length r.calls
  few_stopped rest e invoked (inl p) = (let few = few_calls r steps rest invoked in let same = ap (λ (x : Shown). x.turns) p.1 in omega arith)
  few_stopped [] e invoked (inr p) = absurd p.2
  few_stopped (c ∷ cs) NoMemory invoked (inr p) = (let few = few_calls r steps (c ∷ cs) invoked in let more = p.3.1.beside.turns in omega arith)
  few_stopped (c ∷ cs) PassSpent invoked (inr p) = (let few = few_calls r steps (c ∷ cs) invoked in let same = ap (λ (x : Shown). x.turns) p.3.1 in omega arith)
