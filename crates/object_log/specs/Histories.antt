-- A log that was told the changes of a kind in a history.
use Rattle.std.specs.Prelude.{◌≡◌, ℕ, List, Option, map, option_map}
use Rattle.spec_sizes.specs.Sizes.{of_kind, size_of_object}
use Rattle.spec_history.specs.declared.entry.Change.{Change}
use Rattle.spec_history.specs.declared.entry.Kind.{Kind}
use Rattle.spec_json.specs.declared.tree.Tree.{Tree}
use Rattle.object_log.specs.declared.put.Put.{Put}

-- an id, the object that it has from now on, and how many bytes of it count
abbrev pub ChangeTold : Type 0
ChangeTold = ℕ × (Option Tree × ℕ)

abbrev pub told_by : {T : Type 0} → (T → Tree) → Put T → ChangeTold
told_by read p = (p.id, (option_map read p.object, p.size))

abbrev pub told_in : Change → ChangeTold
told_in c = (c.id, (c.object, size_of_object c.object))

-- the changes of a log are those of a kind in a history, where each of its objects is read as one of the history, and counts for the bytes of that
abbrev pub Follows : {T : Type 0} → (T → Tree) → List (Put T) → Kind → List Change → Type 0
Follows read ps kind cs = map (told_by read) ps ≡ map told_in (of_kind kind cs)
