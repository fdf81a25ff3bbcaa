-- How objects get their numbers: each kind from 1 on, in order, and none twice.
use Rattle.std.specs.Prelude.{List, [], ◌∷◌, ◌++◌, ◌==◌, ◌&&◌, ◌||◌, Bool, true, is_some}
use Rattle.spec_history.specs.History.{live_object, next_number}
use Rattle.spec_history.specs.declared.entry.Change.{Change}

-- a change creates the next object of its kind, or is of one that is there
abbrev pub is_numbered : List Change → Change → Bool
is_numbered cs c = (c.id == next_number cs c.kind) || is_some (live_object cs c.kind c.id)

-- each of these changes does, behind those before it
abbrev pub are_numbered : List Change → List Change → Bool
are_numbered before [] = true
are_numbered before (c ∷ cs) = is_numbered before c && are_numbered (before ++ c ∷ []) cs
