-- A look at the states that are watched: calls of a desk, as all others are (RFC 8620 section 7.1).
use Rattle.std.specs.Prelude.{◌≡◌, ℕ, ℤ, List, [], ◌∷◌, ◌++◌, All, IfSome, Option, flat_map, fold, map}
use Rattle.std.specs.Option.{option_map_or}
use Rattle.spec_batch.specs.Chain.{Made, Shown, Stops}
use Rattle.spec_batch.specs.declared.desk.DeskError.{DeskError}
use Rattle.spec_calls.specs.declared.call.Call.{Call}
use Rattle.spec_json.specs.Data.{Pair}
use Rattle.spec_json.specs.Parts.{some_of}
use Rattle.spec_push.specs.StateChanges.{once_told, state_call, told_of, with_news}
use Rattle.spec_push.specs.declared.watched.Watched.{Watched}

-- what was watched before a look, and the call that was made for it; none where it wasn't looked at
pub record Sight : Type 0 where
  pub watched : Watched
  pub made : Option Made

-- the calls of these sights
abbrev pub made_for : List Sight → List Made
made_for sights = flat_map (λ s. some_of s.made) sights

abbrev pub watched_of : List Sight → List Watched
watched_of sights = map (λ s. s.watched) sights

abbrev pub watched_behind : Sight → Watched
watched_behind s = option_map_or (λ m. once_told s.watched m.reply) s.made s.watched

-- what is watched behind the look
abbrev pub all_behind : List Sight → List Watched
all_behind sights = map watched_behind sights

abbrev pub with_sight : List Pair → Sight → List Pair
with_sight changed s = option_map_or (λ m. with_news s.watched m.reply changed) s.made changed

-- the states that are news, by account and type
abbrev pub changed_by : List Sight → List Pair
changed_by sights = fold with_sight [] sights

-- what a look sends: one StateChange of all that is news, or nothing where nothing is
abbrev pub sent_for : List Sight → List (List ℕ)
sent_for sights = told_of (changed_by sights)

-- a look: what was seen, and what of all that is watched it didn't come to
pub record Look : Type 0 where
  pub sights : List Sight
  pub rest : List Watched

-- the call for what was seen asks for its state, at this moment
abbrev pub SightFits : ℤ → Sight → Type 0
SightFits moment s = IfSome s.made (λ m. (m.account ≡ s.watched.account) × (m.call ≡ state_call s.watched.kind) × (m.moment ≡ moment))

-- what is left begins with a state for which this is the call
abbrev pub AsksForNext : List Watched → ℕ → Call → Type 0
AsksForNext [] account call = ⊥
AsksForNext (w ∷ ws) account call = (account ≡ w.account) × (call ≡ state_call w.kind)

module _ (watch : List Watched) (moment : ℤ) (l : Look) where
  -- the look was at what is watched, in order, as far as it came
  pub record IsLook : Type 0 where
    pub over : watch ≡ watched_of l.sights ++ l.rest
    pub fit : All (SightFits moment) l.sights

  -- the look came to the end
  abbrev pub LooksWhole : Type 0
  LooksWhole = IsLook × (l.rest ≡ [])

  -- In the state u behind the calls of the look the desk answered no more, for this reason, and it was left in the state v: it wasn't asked, or for the next state.
  abbrev pub LooksInPart : DeskError → Shown → Shown → Type 0
  LooksInPart e u v = IsLook × Stops (AsksForNext l.rest) moment e u v
