-- Changes as they can be undone: each with what its id had before it.
use Rattle.std.specs.Prelude.{ℕ, List, [], ◌∷◌, ◌++◌, ◌==◌, ◌&&◌, Bool, Option, if◌then◌else◌, is_some, length, nat_le, sum_by}
use Rattle.spec_history.specs.Pages.{Mention, window}
use Rattle.spec_sizes.specs.Sizes.{window_bytes}
use Rattle.object_log.specs.Puts.{latest}
use Rattle.object_log.specs.declared.put.Put.{Put}
use Rattle.object_log.specs.declared.window.Past.{Past}

module _ {T : Type 0} where
  -- a change behind others, as it can be undone
  abbrev pub past_of : List (Put T) → Put T → Past T
  past_of done p = record { id = p.id; puts = is_some p.object; size = p.size; before = latest done p.id }

  abbrev pub pasts_after : List (Put T) → List (Put T) → List (Past T)
  pasts_after done [] = []
  pasts_after done (p ∷ ps) = past_of done p ∷ pasts_after (done ++ p ∷ []) ps

  -- all changes, as they can be undone
  abbrev pub pasts : List (Put T) → List (Past T)
  pasts ps = pasts_after [] ps

  -- what is undone for an id first, going on from a state, is what it had there; where nothing is, it has that still
  abbrev pub had_before : List (Past T) → ℕ → Option T → Option T
  had_before [] id now = now
  had_before (w ∷ ws) id now = if w.id == id then w.before else had_before ws id now

  abbrev pub bytes_of : List (Past T) → ℕ
  bytes_of ws = sum_by (λ w. w.size) ws

  -- so many changes, with so many bytes, are kept to be undone
  abbrev pub fits : List (Past T) → Bool
  fits ws = nat_le (length ws) window && nat_le (bytes_of ws) window_bytes

  -- what a change mentions, once it can be undone
  abbrev pub mention_past : Past T → Mention
  mention_past w = record { id = w.id; puts = w.puts }
