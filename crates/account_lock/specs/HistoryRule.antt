-- What the rule of the lock's table says of the history and of what passes know of it.
use Rattle.std.specs.Prelude.{◌≡◌, ℕ, ◌<◌, ◌≤◌, IsTrue, List, [], ◌∷◌, ◌++◌, length}
use Rattle.spec_history.specs.Base.{Base}
use Rattle.account_lock.specs.Lock.{PassView, has_read}
use Rattle.spec_history.specs.Signed.{written_by, Begins}
use Rattle.spec_history.specs.declared.entry.Entry.{Entry}
use Rattle.account_lock.specs.declared.lock.Phase.TheVariants.{Turn}
use Rattle.account_lock.specs.TicketRule.{At}

-- all authors are below the number
abbrev pub AuthorsBelow : ℕ → List Entry → Type 0
AuthorsBelow k [] = Unit {0}
AuthorsBelow k (e ∷ es) = (e.author < k) × AuthorsBelow k es

abbrev pub TurnsUpTo : ℕ → List Entry → Type 0
TurnsUpTo t [] = Unit {0}
TurnsUpTo t (e ∷ es) = (e.turn ≤ t) × TurnsUpTo t es

abbrev pub TurnsFrom : ℕ → List Entry → Type 0
TurnsFrom t [] = Unit {0}
TurnsFrom t (e ∷ es) = (t ≤ e.turn) × TurnsFrom t es

-- turns never fall
abbrev pub TurnsRise : List Entry → Type 0
TurnsRise [] = Unit {0}
TurnsRise (e ∷ es) = TurnsFrom e.turn es × TurnsRise es

-- What the pass at place i has seen is the opening and then entries of which its own are those that it knows, and begins the history.
abbrev pub Knows : List Entry → List Entry → ℕ → PassView → Type 0
Knows opened history i v = (made : List Entry) × (v.seen ≡ opened ++ made) × (written_by i made ≡ v.mine) × Begins history v.seen

pub record HistoryHolds (opened : List Entry) (base : Base) (history : List Entry) (count : ℕ) (vs : List PassView) : Type 0 where
  pub added : List Entry
  pub begins : history ≡ opened ++ added
  pub counted : count ≡ length history
  pub known : (i : ℕ) × (v : PassView) × At vs i v × (v.seen ≡ history)
  pub seen : (i : ℕ) (v : PassView) → At vs i v → Knows opened history i v
  pub read : (i : ℕ) (v : PassView) → At vs i v → IsTrue (has_read v.phase) → v.seen ≡ history
  pub in_hand : (i : ℕ) (v : PassView) → At vs i v → v.phase ≡ Turn → v.hand ≡ (base, history)
  pub unchanged : (i : ℕ) (v : PassView) → At vs i v → (v.opened ≡ opened) × (v.base ≡ base)
  pub signed : AuthorsBelow (length vs) added
  pub mine : (i : ℕ) (v : PassView) → At vs i v → written_by i added ≡ v.mine
  pub timed : (i : ℕ) (v : PassView) → At vs i v → TurnsUpTo v.turns v.mine × TurnsRise v.mine
