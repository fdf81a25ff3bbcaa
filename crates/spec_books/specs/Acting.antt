-- What comes of a call on a book.
use Rattle.std.specs.Prelude.{◌≡◌, ◌⊎◌, ℤ, List, [], ◌++◌, Option, Some}
use Rattle.spec_history.specs.Base.{Base}
use Rattle.spec_history.specs.declared.entry.Entry.{Entry}
use Rattle.spec_history.specs.declared.stamp.Stamp.{Stamp}

-- the reply tells that what a call adds to this history could not be kept, where `unkept` is how that is told: None where all is kept that any call adds
abbrev pub IsUnkept : {R : Type 0} → Option (List Entry → R) → List Entry → R → Type 0
IsUnkept {R} unkept h reply = (f : List Entry → R) × (unkept ≡ Some f) × (reply ≡ f h)

-- by what is replied to a call at a history, what it adds to it, and how it is told that this could not be kept
module _ {C R : Type 0} (answer : Base → List Entry → C → ℤ → R) (added : Base → List Entry → C → Stamp → List Entry) (unkept : Option (List Entry → R)) where
  -- The reply is the answer, and what the call adds came. Or that could not be kept, the reply tells so, and nothing came.
  abbrev pub Acts : Base → List Entry → C → Stamp → R → List Entry → Type 0
  Acts base h call stamp reply came = ((reply ≡ answer base h call stamp.moment) × (came ≡ added base h call stamp)) ⊎ (IsUnkept unkept h reply × (came ≡ []))

  -- the history goes on with what came of the call
  abbrev pub Came : Base → List Entry → C → Stamp → R → List Entry → Type 0
  Came base h call stamp reply h' = (came : List Entry) × Acts base h call stamp reply came × (h' ≡ h ++ came)
