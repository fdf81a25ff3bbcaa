-- What a chain comes to in which nobody else takes part.
use Rattle.std.specs.Prelude.{◌≡◌, ℕ, ◌+◌, List, [], ◌∷◌, length}
use Rattle.account_desk.specs.FreshDesk.{IsSole}
use Rattle.spec_batch.specs.Chain.{Made, Chain, Shown, on}

-- each call is answered at just the entries that came of the calls before it, where so many went before the first
abbrev pub InTurn : ℕ → List Made → Type 0
InTurn count [] = Unit {0}
InTurn count (m ∷ ms) = (m.reply.place ≡ count) × InTurn (count + length m.came) ms

-- from any state of a desk to one in which no entry is anybody else's; whatever its accounts answer
abbrev pub AnsweredInTurn : Type 0
AnsweredInTurn = (s t : Shown) (ms : List Made) → Chain s t ms → IsSole t → (k : ℕ) → InTurn (length (s.seen k)) (on k ms)
