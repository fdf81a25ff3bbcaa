-- What one turn of a socket does.
use Rattle.std.specs.Prelude.{◌≡◌, ℕ, ℤ, ◌+◌, ◌≤◌, List, [], ◌∷◌, Option, Some, None, Result, Ok, Err, length}
use Rattle.spec_batch.specs.Chain.{Chain, Shown}
use Rattle.spec_batch.specs.declared.desk.DeskError.{DeskError}
use Rattle.spec_batch.specs.declared.desk.Front.{Front}
use Rattle.spec_core.specs.declared.user.User.{User}
use Rattle.spec_push.specs.Looks.{Look, LooksInPart, LooksWhole, all_behind, made_for, sent_for}
use Rattle.spec_sockets.specs.Switches.{switch_in_text}
use Rattle.spec_sockets.specs.Texts.{asked_in_text, id_in_text}
use Rattle.spec_sockets.specs.Turns.{Turn, TurnBegun, TurnFits, TurnsTold, look_size, made_in_look, reply_of, sent_by, taken_by_turn, watched_after, watched_by}
use Rattle.spec_sockets.specs.declared.message.WsMessage.{WsMessage}
use Rattle.spec_sockets.specs.declared.message.WsMessage.TheVariants.{Text}
use Rattle.spec_sockets.specs.declared.switch.Switch.{Switch}
use Rattle.ws_serve.specs.Valued.{IsAnsweredAs}
use Rattle.ws_serve.specs.declared.push.Push.{Push}
use Rattle.ws_serve.specs.declared.turn.Said.{Said}
use Rattle.ws_serve.specs.declared.turn.Said.TheVariants.{Change, Nothing, Reply}

-- the texts that a turn says
abbrev pub texts_said : Said → List (List ℕ)
texts_said Nothing = []
texts_said (Reply text) = text.items ∷ []
texts_said (Change text) = text.items ∷ []

-- those that are replies
abbrev pub replies_said : Said → List (List ℕ)
replies_said Nothing = []
replies_said (Reply text) = text.items ∷ []
replies_said (Change text) = []

-- the message that was taken, where a text was
abbrev pub as_messages : Option (List ℕ) → List WsMessage
as_messages None = []
as_messages (Some text) = Text text ∷ []

-- ---- at a moment

module _ (moment : ℤ) (p p' : Push) where
  -- a text was replied to, or what is watched is what it asks for
  abbrev pub IsTextHad : User → List ℕ → List Front → List Front → Shown → Shown → Result Said DeskError → Type 0
  IsTextHad user asking fronts fronts' d d' (Ok (Reply bytes)) =
      (switch_in_text asking ≡ None) × IsAnsweredAs user moment (asked_in_text asking) (id_in_text asking) fronts fronts' d d' (Ok bytes) × (p'.watch ≡ p.watch) × (p'.calls ≡ p.calls)
  IsTextHad user asking fronts fronts' d d' (Ok Nothing) =
      (s : Switch) × (switch_in_text asking ≡ Some s) × (fronts' ≡ fronts) × (d' ≡ d) × (p'.watch ≡ watched_by user s) × (p'.calls ≡ p.calls)
  IsTextHad user asking fronts fronts' d d' (Ok (Change bytes)) = ⊥
  IsTextHad user asking fronts fronts' d d' (Err e) = IsAnsweredAs user moment (asked_in_text asking) (id_in_text asking) fronts fronts' d d' (Err e)

  module _ (l : Look) (u v : Shown) where
    abbrev pub LookHadHow : Result Said DeskError → Type 0
    LookHadHow (Ok said) =
        LooksWhole p.watch moment l × (v ≡ u) × (p'.watch ≡ all_behind l.sights) × (texts_said said ≡ sent_for l.sights) × (replies_said said ≡ []) × (p'.calls ≡ p.calls + length (made_for l.sights))
    LookHadHow (Err e) = LooksInPart p.watch moment l e u v

  -- the states were looked at
  pub record IsLookHad (d d' : Shown) (r : Result Said DeskError) : Type 0 where
    pub look : Look
    pub desk : Shown
    pub chain : Chain d desk (made_for look.sights)
    pub how : LookHadHow look desk d' r

-- ---- with a clock

module _ (user : User) (p p' : Push) (t : Turn) where
  -- the turn fits, this is what it sends, and what is watched behind it is what it comes to
  pub record IsHad (said : Said) : Type 0 where
    pub fit : TurnFits user p.watch t
    pub says : texts_said said ≡ sent_by t
    pub replies : replies_said said ≡ reply_of t
    pub watch : p'.watch ≡ watched_after user p.watch t
    pub calls : p'.calls ≡ p.calls + length (made_in_look t)

  abbrev pub TurnHow : Shown → Shown → Result Said DeskError → Type 0
  TurnHow u v (Ok said) = IsHad said × (v ≡ u)
  TurnHow u v (Err e) = TurnBegun user p.watch e u v t

-- what was made of a text, or without one, with what clock, fronts and desk were before and after
pub record TakesTurn (user : User) (text : Option (List ℕ)) (p p' : Push) (clock clock' : Option (ℕ → ℤ)) (fronts fronts' : List Front) (d d' : Shown) (r : Result Said DeskError) : Type 0 where
  pub turn : Turn
  pub takes : taken_by_turn turn ≡ as_messages text
  pub size : look_size turn ≤ length p.watch
  -- the desk behind the calls that it answered
  pub desk : Shown
  pub told : TurnsTold clock clock' fronts fronts' d desk (turn ∷ [])
  pub how : TurnHow user p p' turn desk d' r
