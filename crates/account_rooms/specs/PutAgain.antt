-- A history that puts the live objects of another one again.
use Rattle.std.specs.Prelude.{◌≡◌, ℕ, List, filter, is_some}
use Rattle.spec_history.specs.History.{ids_at, live_object}
use Rattle.spec_history.specs.declared.entry.Change.{Change}
use Rattle.spec_history.specs.declared.entry.Kind.{Kind}

-- the live objects of these changes are put again by those, in order of their numbers
pub record ArePutAgain (again cs : List Change) : Type 0 where
  pub objects : (kind : Kind) (id : ℕ) → live_object again kind id ≡ live_object cs kind id
  pub numbers : (kind : Kind) → ids_at again kind ≡ filter (λ n. is_some (live_object cs kind n)) (ids_at cs kind)
