-- How a text is answered that asks for this and has this id.
use Rattle.std.specs.Prelude.{◌≡◌, ℕ, ℤ, ◌≤◌, List, ◌++◌, length, map, true, Option, Result, Ok, Err, Vec}
use Rattle.std.specs.declared.alloc.Global.{Global}
use Rattle.spec_batch.specs.Asked.{Asked}
use Rattle.spec_batch.specs.Chain.{Made, Chain, Shown, front_of}
use Rattle.spec_batch.specs.Problem.{problem}
use Rattle.spec_batch.specs.declared.desk.DeskError.{DeskError}
use Rattle.spec_batch.specs.declared.desk.DeskError.TheVariants.{NoMemory}
use Rattle.spec_batch.specs.declared.desk.Front.{Front}
use Rattle.spec_batch.specs.declared.request.RequestError.{RequestError}
use Rattle.spec_core.specs.declared.user.User.{User}
use Rattle.spec_json.specs.Json.{text_of}
use Rattle.spec_sockets.specs.Exchanges.{IsCutOff, IsReplyText}
use Rattle.spec_sockets.specs.Texts.{marked}

-- the text of a problem
abbrev pub IsRefusalText : RequestError → Option (List ℕ) → Result (Vec ℕ Global) DeskError → Type 0
IsRefusalText error id (Ok bytes) = bytes.items ≡ text_of (marked true id (problem error))
IsRefusalText error id (Err e) = e ≡ NoMemory

module _ (user : User) (moment : ℤ) (what : Asked) (id : Option (List ℕ)) where
  abbrev pub ReplyHowAs : List Made → Shown → Shown → Result (Vec ℕ Global) DeskError → Type 0
  ReplyHowAs made u v (Ok bytes) = IsReplyText user moment what id made bytes.items × (v ≡ u)
  ReplyHowAs made u v (Err e) = IsCutOff user moment what id made e u v

  -- the calls that a desk answered are a chain, each with its front
  pub record IsAnsweredAs (fronts fronts' : List Front) (d d' : Shown) (r : Result (Vec ℕ Global) DeskError) : Type 0 where
    pub made : List Made
    pub desk : Shown
    pub chain : Chain d desk made
    pub added : fronts' ≡ fronts ++ map front_of made
    pub few : length made ≤ 16
    pub how : ReplyHowAs made desk d' r
