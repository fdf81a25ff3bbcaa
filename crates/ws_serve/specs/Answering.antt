-- How one text is answered, at a moment.
use Rattle.std.specs.Prelude.{◌≡◌, ℕ, ℤ, List, Option, Some, None, Result, Ok, Err, Vec}
use Rattle.std.specs.declared.alloc.Global.{Global}
use Rattle.spec_batch.specs.Asked.{Asked}
use Rattle.spec_batch.specs.Chain.{Shown}
use Rattle.spec_batch.specs.declared.desk.DeskError.{DeskError}
use Rattle.spec_batch.specs.declared.desk.Front.{Front}
use Rattle.spec_core.specs.declared.user.User.{User}
use Rattle.spec_json.specs.Data.{Data}
use Rattle.spec_json.specs.Parts.{text_at}
use Rattle.spec_sockets.specs.Switches.{switch_in_text, switch_of}
use Rattle.spec_sockets.specs.Texts.{asked_by_marked, asked_in_text, id_in_text}
use Rattle.spec_sockets.specs.declared.switch.Switch.{Switch}
use Rattle.ws_serve.specs.Valued.{IsAnsweredAs}
use Rattle.ws_serve.specs.declared.reply.TextAnswer.{TextAnswer}
use Rattle.ws_serve.specs.declared.reply.TextAnswer.TheVariants.{Reply, Switch as Switched}
use Rattle.std.specs.Prelude.{codes}

abbrev pub replied_as : Result (Vec ℕ Global) DeskError → Result TextAnswer DeskError
replied_as (Ok bytes) = Ok (Reply bytes)
replied_as (Err e) = Err e

module _ (user : User) (moment : ℤ) where
  -- what comes of a text that is this switch, or none, asks for this, and has this id
  abbrev pub IsAnswerTo : Option Switch → Asked → Option (List ℕ) → List Front → List Front → Shown → Shown → Result TextAnswer DeskError → Type 0
  IsAnswerTo switch what id fronts fronts' d d' (Ok (Reply bytes)) = (switch ≡ None) × IsAnsweredAs user moment what id fronts fronts' d d' (Ok bytes)
  IsAnswerTo switch what id fronts fronts' d d' (Ok (Switched s)) = (switch ≡ Some s) × (fronts' ≡ fronts) × (d' ≡ d)
  IsAnswerTo switch what id fronts fronts' d d' (Err e) = IsAnsweredAs user moment what id fronts fronts' d d' (Err e)

  abbrev pub IsTreeAnswered : Data → List Front → List Front → Shown → Shown → Result TextAnswer DeskError → Type 0
  IsTreeAnswered d fronts fronts' s s' r = IsAnswerTo (switch_of d) (asked_by_marked d) (text_at (codes "id") d) fronts fronts' s s' r

  abbrev pub IsTextAnswered : List ℕ → List Front → List Front → Shown → Shown → Result TextAnswer DeskError → Type 0
  IsTextAnswered asking fronts fronts' d d' r = IsAnswerTo (switch_in_text asking) (asked_in_text asking) (id_in_text asking) fronts fronts' d d' r
