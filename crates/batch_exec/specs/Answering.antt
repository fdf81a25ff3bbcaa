-- What the invocations of a request lead to, one after the other.
use Rattle.std.specs.Prelude.{◌≡◌, ℕ, ℤ, List, [], Result, Ok, Err}
use Rattle.spec_batch.specs.Batch.{Step, NextMeans, Progress, created_after, response_object, responses_in}
use Rattle.spec_batch.specs.Chain.{Shown, Stops}
use Rattle.spec_json.specs.TreeData.{data_of}
use Rattle.spec_batch.specs.declared.desk.DeskError.{DeskError}
use Rattle.spec_batch.specs.declared.desk.DeskError.TheVariants.{PassSpent, NoMemory}
use Rattle.spec_batch.specs.declared.desk.Front.{Front}
use Rattle.spec_batch.specs.declared.request.BatchError.{BatchError}
use Rattle.spec_batch.specs.declared.request.BatchError.TheVariants.{Refused, PassSpent as PassSpent', NoMemory as NoMemory'}
use Rattle.spec_batch.specs.declared.request.Invocation.{Invocation}
use Rattle.spec_batch.specs.declared.request.Request.{Request}
use Rattle.spec_batch.specs.declared.method_response.MethodResponse.{MethodResponse}
use Rattle.spec_json.specs.declared.tree.Tree.{Tree}
use Rattle.spec_core.specs.declared.user.User.{User}
use Rattle.batch_exec.specs.declared.batch.Answers.{Answers}

module _ (user : User) (request : Request) (moment : ℤ) (fronts fronts' : List Front) (s t : Shown) where
  -- so far these responses were given, and these are the created ids
  pub record Going (steps : List Step) (rest : List Invocation) (responses : List MethodResponse) (created : List (List ℕ × List ℕ)) : Type 0 where
    pub progress : Progress user request moment fronts fronts' s t steps rest
    pub responses_are : responses ≡ responses_in steps
    pub created_are : created ≡ created_after request steps

  -- the first invocations were answered, and in the state that they left the desk answered no more
  abbrev pub HasStopped : DeskError → Type 0
  HasStopped e =
      (steps : List Step) × (rest : List Invocation) × (u : Shown) × Progress user request moment fronts fronts' s u steps rest
      × Stops (NextMeans user request moment steps rest) moment e u t

  -- the request was answered, or the first of its invocations were
  abbrev pub IsRequestAnswered : Result Tree BatchError → Type 0
  IsRequestAnswered (Ok tree) = (steps : List Step) × Progress user request moment fronts fronts' s t steps [] × (data_of tree ≡ response_object request steps)
  IsRequestAnswered (Err NoMemory') = HasStopped NoMemory
  IsRequestAnswered (Err PassSpent') = HasStopped PassSpent
  IsRequestAnswered (Err (Refused e)) = ⊥

  abbrev pub HasAnswered : Result Answers DeskError → Type 0
  HasAnswered (Ok answers) = (steps : List Step) × Progress user request moment fronts fronts' s t steps [] × (answers.responses.items ≡ responses_in steps) × (answers.created ≡ created_after request steps)
  HasAnswered (Err e) = HasStopped e
