-- The messages that the bytes of a connection hold one behind the other, and why there is none behind them (RFC 9112 sections 9.3 and 9.6).
use Rattle.std.specs.Prelude.{◌≡◌, ℕ, ◌<◌, ◌≤◌, List, [], ◌∷◌, ◌++◌, true, false, ⊤}
use Rattle.spec_http.specs.Messages.{Message, whole, refused, BeginsWith, IsUndecided}

-- the bytes are these messages and what is left behind them
abbrev pub Reads : List ℕ → List Message → List ℕ → Type 0
Reads bytes [] left = bytes ≡ left
Reads bytes (m ∷ ms) left = (rest : List ℕ) × BeginsWith bytes (whole m rest) × Reads rest ms left

-- none of them asks to close
abbrev pub AllOpen : List Message → Type 0
AllOpen [] = ⊤
AllOpen (m ∷ ms) = (m.close ≡ false) × AllOpen ms

pub data Ending : Type 0 where
  -- what is left is neither a message nor a head that is refused
  undecided : Ending
  -- it begins with a head that is refused with this status
  bad_head : ℕ → Ending
  -- the last message asked to close
  close_asked : Ending
  -- a connection has no more messages
  quota_spent : Ending

-- Why these n messages are all, where a connection has at most `most`. Nothing behind one that asks to close, or behind the last of so many, is looked at.
abbrev pub EndsAs : ℕ → ℕ → List Message → List ℕ → Ending → Type 0
EndsAs most n ms left undecided = (n < most) × AllOpen ms × IsUndecided left
EndsAs most n ms left (bad_head status) = (n < most) × AllOpen ms × BeginsWith left (refused status)
EndsAs most n ms left close_asked = (n ≤ most) × (before : List Message) × (last : Message) × (ms ≡ before ++ last ∷ []) × AllOpen before × (last.close ≡ true)
EndsAs most n ms left quota_spent = (n ≡ most) × AllOpen ms
