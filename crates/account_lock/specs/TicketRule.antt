-- What the rule of the lock's table says of tickets, and of passes and their numbers.
use Rattle.std.specs.Prelude.{◌≡◌, ℕ, ◌+◌, ◌<◌, ◌≤◌, IsTrue, List, length, sum_by, count_by}
use mathlib.Core.Option.{some}
use lib.ListN.{get_elem?}
use Rattle.spec_history.specs.MostTurns.{most_turns}
use Rattle.account_lock.specs.Lock.{PassView, in_line, has_turn}

-- the pass whose view stands at this place
abbrev pub At : List PassView → ℕ → PassView → Type 0
At vs i v = get_elem? vs i ≡ some v

-- The tickets of the passes in line are those from the one that is served up to the next one, and the pass that is served alone may have the turn.
pub record TicketsHold (ticket serving : ℕ) (vs : List PassView) : Type 0 where
  pub issued : ticket ≡ sum_by (λ v. v.turns) vs
  pub waiting : serving + count_by (λ v. in_line v.phase) vs ≡ ticket
  pub in_range : (i : ℕ) (v : PassView) → At vs i v → IsTrue (in_line v.phase) → (serving ≤ v.ticket) × (v.ticket < ticket)
  pub apart : (i j : ℕ) (v w : PassView) → At vs i v → At vs j w → IsTrue (in_line v.phase) → IsTrue (in_line w.phase) → v.ticket ≡ w.ticket → i ≡ j
  pub met : (k : ℕ) → serving ≤ k → k < ticket → (i : ℕ) × (v : PassView) × At vs i v × IsTrue (in_line v.phase) × (v.ticket ≡ k)
  pub served : (i : ℕ) (v : PassView) → At vs i v → IsTrue (has_turn v.phase) → v.ticket ≡ serving

-- Passes and turns are so few that no word wraps. A pass's number is its place.
pub record PassesHold (vs : List PassView) : Type 0 where
  pub few_turns : (i : ℕ) (v : PassView) → At vs i v → v.turns ≤ most_turns
  pub number : (i : ℕ) (v : PassView) → At vs i v → v.number ≡ i
  pub alone : (i : ℕ) (v : PassView) → At vs i v → 0 < i → v.splits ≡ 0
  pub few_passes : (v : PassView) → At vs 0 v → (length vs ≡ v.splits + 1) × (v.splits < 256)
  pub first : (v : PassView) × At vs 0 v
