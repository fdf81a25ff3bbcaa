-- What contracts see of a desk whose accounts others share.
use Rattle.std.specs.Prelude.{◌≡◌, ◌≤◌, ◌<◌, ◌^◌, ℕ, List, [], ◌∷◌, All, Result, Ok, Err, length, map, max, slice_get}
use Rattle.std.specs.Option.{option_map_or}
use Rattle.atomic_table.specs.Seated.{TableId}
use Rattle.account_lock.specs.Passes.{PassState}
use Rattle.account_lock.specs.declared.locked.CallError.{CallError}
use Rattle.account_lock.specs.declared.locked.CallError.TheVariants as pass
use Rattle.spec_batch.specs.Chain.{Rules, Shown}
use Rattle.spec_batch.specs.declared.desk.DeskError.{DeskError}
use Rattle.spec_batch.specs.declared.desk.DeskError.TheVariants.{NoMemory, PassSpent}
use Rattle.spec_history.specs.Base.{no_base}
use Rattle.spec_history.specs.MostTurns.{most_turns}

-- The desk signs with the numbers of its passes, knows what they have seen, and the last turn on an account is that of its pass.
abbrev pub shown_by_passes : Rules → List PassState × ℕ → Shown
shown_by_passes rules d = record {
  accounts = length d.0;
  rules = rules;
  turns = d.1;
  base = λ k. option_map_or (λ p. p.base) (slice_get d.0 k) no_base;
  seen = λ k. option_map_or (λ p. p.seen) (slice_get d.0 k) [];
  author = λ k. option_map_or (λ p. p.number) (slice_get d.0 k) 0;
  last = λ k. option_map_or (λ p. p.turns) (slice_get d.0 k) 0;
}

-- the greatest number of calls that one of the passes has made
abbrev pub greatest_turn : List PassState → ℕ
greatest_turn [] = 0
greatest_turn (p ∷ ps) = max p.turns (greatest_turn ps)

-- what is true of every such desk, over these locks: it has one pass of each, and none made more calls than the desk
pub record IsSharedDesk (locks : List TableId) (passes : List PassState) (turns : ℕ) : Type 0 where
  pub of_locks : map (λ p. p.lock) passes ≡ locks
  pub few : length passes < 2 ^ 32
  pub counted : All (λ p. p.turns ≤ turns) passes
  pub within : turns ≤ most_turns

-- what a pass was answered, as the desk's answer
abbrev pub through_pass : {R : Type 0} → Result R CallError → Result R DeskError
through_pass (Ok reply) = Ok reply
through_pass (Err pass.PassSpent) = Err PassSpent
through_pass (Err pass.NoMemory) = Err NoMemory
