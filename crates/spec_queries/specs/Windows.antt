-- The part of a result that a query asks for (RFC 8620 section 5.5).
use Rattle.std.specs.Prelude.{ℕ, ℤ, pos, negsuc, ◌+◌, ◌+ℤ◌, ◌<◌, ◌^◌, ⊤, if◌then◌else◌, int_lt, min, max, Option, Some, None, option_map}
use Rattle.spec_queries.specs.declared.window.Anchor.{Anchor}
use Rattle.spec_queries.specs.declared.window.Anchor.TheVariants.{None as NoAnchor, At, Missing}
use Rattle.spec_queries.specs.declared.window.Cut.{Cut}

-- the place of an anchor is one of a list that memory can hold
abbrev pub IsInMemory : Anchor → Type 0
IsInMemory NoAnchor = ⊤
IsInMemory (At place) = place < 2 ^ 63
IsInMemory Missing = ⊤

-- a negative position counts from the end
abbrev pub from_position : ℕ → ℤ → ℤ
from_position len position = if int_lt position (pos 0) then pos len +ℤ position else position

-- an anchor with its offset stands in place of the position; a missing one has no start
abbrev pub start_of : ℕ → ℤ → Anchor → ℤ → Option ℤ
start_of len position NoAnchor offset = Some (from_position len position)
start_of len position (At place) offset = Some (pos place +ℤ offset)
start_of len position Missing offset = None

abbrev pub or_zero : ℤ → ℕ
or_zero (pos n) = n
or_zero (negsuc n) = 0

-- up to the end of the result or the limit, whichever comes first
abbrev pub cut_at : ℕ → ℤ → ℕ → Cut
cut_at len start limit = record { from = or_zero start; to = max (or_zero start) (min len (or_zero start + limit)) }

abbrev pub window_of : ℕ → ℤ → Anchor → ℤ → ℕ → Option Cut
window_of len position anchor offset limit = option_map (λ start. cut_at len start limit) (start_of len position anchor offset)
