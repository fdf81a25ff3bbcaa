-- Periods in the order of their starts, joined where they touch.
use Rattle.std.specs.Prelude.{Bool, int_le, int_lt, ◌&&◌, List, [], ◌∷◌, Some, if◌then◌else◌}
use Rattle.std.specs.List.{list_all}
use Rattle.std.specs.Int.{int_max, int_min}
use Rattle.spec_windows.specs.declared.period.Period.{Period}
use Rattle.spec_windows.specs.declared.window.Window.{Window}

-- both periods and what is between them
abbrev pub hull : Period → Period → Period
hull p q = record { from = int_min p.from q.from; to = int_max p.to q.to }

-- what both periods have
abbrev pub common : Period → Period → Period
common p q = record { from = int_max p.from q.from; to = int_min p.to q.to }

-- a period joined with those behind it that begin by its end, before what comes of the others
unfoldable pub joined_from : Period → List Period → List Period
joined_from s [] = s ∷ []
joined_from s (p ∷ ps) = if int_lt s.to p.from then s ∷ joined_from p ps else joined_from (hull s p) ps

abbrev pub joined_periods : List Period → List Period
joined_periods [] = []
joined_periods (p ∷ ps) = joined_from p ps

-- the period has an instant, and none outside the window
abbrev pub is_inside : Period → Period → Bool
is_inside w p = int_le w.from p.from && (int_lt p.from p.to && int_le p.to w.to)

abbrev pub are_inside : Period → List Period → Bool
are_inside w ps = list_all (is_inside w) ps

-- what an occurrence meets that has an instant of the period
abbrev pub limits : Period → Window
limits w = record { after = Some w.from; before = Some w.to }
