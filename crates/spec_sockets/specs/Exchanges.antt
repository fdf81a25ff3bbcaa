-- A text of a socket that is no switch, and what came of it.
use Rattle.std.specs.Prelude.{◌≡◌, ◌⊎◌, ℕ, ℤ, List, [], Option}
use Rattle.spec_batch.specs.Asked.{Asked, is_refused}
use Rattle.spec_batch.specs.Chain.{Made, Shown}
use Rattle.spec_batch.specs.Reply.{BeginsReply, Replies}
use Rattle.spec_batch.specs.declared.desk.DeskError.{DeskError}
use Rattle.spec_batch.specs.declared.desk.DeskError.TheVariants.{NoMemory}
use Rattle.spec_core.specs.declared.user.User.{User}
use Rattle.spec_json.specs.Data.{Data}
use Rattle.spec_json.specs.Json.{text_of}
use Rattle.spec_sockets.specs.Texts.{asked_in_text, id_in_text, marked}
use Rattle.spec_time.specs.Moments.{clamped}

-- a text, the moment that the clock gave for it, the calls that the desk answered for it, and the text of its reply
pub record TextExchange : Type 0 where
  pub asking : List ℕ
  pub moment : ℤ
  pub made : List Made
  pub reply : List ℕ

-- what was asked, by a request with this id, for a user at a moment
module _ (user : User) (moment : ℤ) (what : Asked) (id : Option (List ℕ)) where
  -- these calls and this text are the reply
  abbrev pub IsReplyText : List Made → List ℕ → Type 0
  IsReplyText made bytes = (reply : Data) × Replies user moment what made reply × (bytes ≡ text_of (marked (is_refused what) id reply))

  -- There is no reply: these calls were answered, and the desk answered no more for this reason. In the state u it had answered them, and it was left in the state v.
  abbrev pub IsCutOff : List Made → DeskError → Shown → Shown → Type 0
  IsCutOff made e u v = ((e ≡ NoMemory) × (made ≡ []) × (v ≡ u)) ⊎ BeginsReply user moment what made e u v

module _ (user : User) where
  -- the reply is the one to its text, with the `requestId` of this text
  abbrev pub TextFits : TextExchange → Type 0
  TextFits t = IsReplyText user (clamped t.moment) (asked_in_text t.asking) (id_in_text t.asking) t.made t.reply

  -- the text has no reply
  abbrev pub TextBegun : DeskError → Shown → Shown → TextExchange → Type 0
  TextBegun e u v t = IsCutOff user (clamped t.moment) (asked_in_text t.asking) (id_in_text t.asking) t.made e u v
