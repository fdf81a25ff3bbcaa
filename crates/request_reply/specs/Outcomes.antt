-- What a request comes to.
use Rattle.std.specs.Prelude.{◌≡◌, ◌≤◌, ◌⊎◌, ℤ, List, [], ◌++◌, true, Result, Ok, Err, length, map}
use Rattle.spec_batch.specs.Asked.{Asked, is_refused}
use Rattle.spec_batch.specs.Chain.{Made, Chain, Shown, front_of}
use Rattle.spec_batch.specs.Problem.{problem}
use Rattle.spec_batch.specs.Reply.{BeginsReply, Replies}
use Rattle.spec_batch.specs.declared.desk.DeskError.{DeskError}
use Rattle.spec_batch.specs.declared.desk.DeskError.TheVariants.{NoMemory}
use Rattle.spec_batch.specs.declared.desk.Front.{Front}
use Rattle.spec_batch.specs.declared.request.RequestError.{RequestError}
use Rattle.spec_core.specs.declared.user.User.{User}
use Rattle.spec_json.specs.TreeData.{data_of}
use Rattle.request_reply.specs.declared.reply.RequestOutcome.{RequestOutcome}

abbrev pub IsProblem : RequestError → Result RequestOutcome DeskError → Type 0
IsProblem error (Ok reply) = (data_of reply.tree ≡ problem error) × (reply.is_refusal ≡ true)
IsProblem error (Err e) = e ≡ NoMemory

-- what the calls and the answer say of what was asked, for a user at a moment, where the desk was in the state u behind these calls and was left in the state v
abbrev pub OutcomeHow : User → ℤ → Asked → List Made → Shown → Shown → Result RequestOutcome DeskError → Type 0
OutcomeHow user moment what made u v (Ok reply) = Replies user moment what made (data_of reply.tree) × (is_refused what ≡ reply.is_refusal) × (v ≡ u)
OutcomeHow user moment what made u v (Err e) = ((e ≡ NoMemory) × (made ≡ []) × (v ≡ u)) ⊎ BeginsReply user moment what made e u v

-- the calls that a desk answered for what was asked are a chain, each with its front
pub record IsOutcome (user : User) (moment : ℤ) (what : Asked) (fronts fronts' : List Front) (d d' : Shown) (r : Result RequestOutcome DeskError) : Type 0 where
  pub made : List Made
  pub desk : Shown
  pub chain : Chain d desk made
  pub added : fronts' ≡ fronts ++ map front_of made
  -- a request has at most 16 calls
  pub few : length made ≤ 16
  pub how : OutcomeHow user moment what made desk d' r
