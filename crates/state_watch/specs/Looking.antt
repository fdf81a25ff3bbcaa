-- What a look at states does to a watch and a desk, at a moment.
use Rattle.std.specs.Prelude.{◌≡◌, ◌⊎◌, ℕ, ℤ, List, [], ◌∷◌, ⊤, Option, Some, None, Result, Ok, Err, Vec, length}
use Rattle.std.specs.declared.alloc.Global.{Global}
use Rattle.spec_batch.specs.Chain.{Called, Chain, Made, Shown}
use Rattle.spec_batch.specs.declared.desk.DeskError.{DeskError}
use Rattle.spec_batch.specs.declared.desk.DeskError.TheVariants.{NoMemory}
use Rattle.spec_json.specs.Data.{Pair}
use Rattle.spec_push.specs.Looks.{Look, LooksInPart, LooksWhole, Sight, SightFits, all_behind, changed_by, made_for, sent_for, watched_behind, with_sight}
use Rattle.spec_push.specs.StateChanges.{state_call, told_of}
use Rattle.spec_push.specs.declared.watched.Watched.{Watched}
use Rattle.state_watch.specs.declared.watch.Looked.{Looked}
use Rattle.state_watch.specs.declared.watch.Seen.{Seen}

-- a text that may be there
abbrev pub texts_in : Option (Vec ℕ Global) → List (List ℕ)
texts_in None = []
texts_in (Some text) = text.items ∷ []

-- what was seen was put together, or memory ran out
abbrev pub IsTold : Seen → Result Looked DeskError → Type 0
IsTold seen (Ok looked) = (texts_in looked.told ≡ told_of seen.changed) × (looked.calls ≡ seen.calls)
IsTold seen (Err e) = e ≡ NoMemory

module _ (moment : ℤ) where
  -- ---- one state

  -- the call for the state was answered
  pub record IsGlance (w : Watched) (d d' : Shown) (s : Sight) : Type 0 where
    pub is : s.watched ≡ w
    pub one : length (made_for (s ∷ [])) ≡ 1
    pub fit : SightFits moment s
    pub chain : Chain d d' (made_for (s ∷ []))

  abbrev pub IsSeen : Watched → Watched → List Pair → List Pair → Shown → Shown → Result ⊤ DeskError → Type 0
  IsSeen w w' changed changed' d d' (Ok done) = (s : Sight) × IsGlance w d d' s × (w' ≡ watched_behind s) × (changed' ≡ with_sight changed s)
  IsSeen w w' changed changed' d d' (Err e) = Called d d' w.account (state_call w.kind) moment (Err e) ⊎ ((e ≡ NoMemory) × (s : Sight) × IsGlance w d d' s)

  -- ---- all that is watched

  module _ (watch watch' : List Watched) (l : Look) (u v : Shown) where
    -- the look came to the end, and what is watched behind it is what its calls show
    pub record IsWholeLook : Type 0 where
      pub whole : LooksWhole watch moment l
      pub same : v ≡ u
      pub noted : watch' ≡ all_behind l.sights

    abbrev pub SeeHow : Result Seen DeskError → Type 0
    SeeHow (Ok seen) = IsWholeLook × (seen.changed ≡ changed_by l.sights) × (seen.calls ≡ length (made_for l.sights))
    SeeHow (Err e) = LooksInPart watch moment l e u v

    abbrev pub LookHow : Result Looked DeskError → Type 0
    LookHow (Ok looked) = IsWholeLook × (texts_in looked.told ≡ sent_for l.sights) × (looked.calls ≡ length (made_for l.sights))
    LookHow (Err e) = LooksInPart watch moment l e u v

  pub record SeesSo (watch watch' : List Watched) (d d' : Shown) (r : Result Seen DeskError) : Type 0 where
    pub look : Look
    -- the desk behind the calls that it answered
    pub desk : Shown
    pub chain : Chain d desk (made_for look.sights)
    pub how : SeeHow watch watch' look desk d' r

  -- the calls that were answered are a chain, and what was told and noted is what they show
  pub record LooksSo (watch watch' : List Watched) (d d' : Shown) (r : Result Looked DeskError) : Type 0 where
    pub look : Look
    -- the desk behind the calls that it answered
    pub desk : Shown
    pub chain : Chain d desk (made_for look.sights)
    pub how : LookHow watch watch' look desk d' r
