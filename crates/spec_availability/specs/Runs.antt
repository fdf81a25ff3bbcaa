-- The maximal runs of the instants of a window that pass a test.
use Rattle.std.specs.Prelude.{ℤ, pos, ◌-ℤ◌, ◌&&◌, ◌||◌, Bool, not, List, filter, find, map, unsigned_abs, unwrap_or}
use Rattle.std.specs.Ordering.{int_eq}
use Rattle.spec_series.specs.Numbers.{numbers_from}
use Rattle.spec_windows.specs.declared.period.Period.{Period}

module _ (passes : ℤ → Bool) (window : Period) where
  -- a run begins at an instant that passes and is the first of the window, or comes after one that doesn't pass
  abbrev pub begins_run : ℤ → Bool
  begins_run u = passes u && (int_eq u window.from || not (passes (u -ℤ pos 1)))

  -- it ends at the first instant behind that doesn't pass, or with the window
  abbrev pub run_end : ℤ → ℤ
  run_end u = unwrap_or (find (λ v. not (passes v)) (numbers_from u (unsigned_abs (window.to -ℤ u)))) window.to

  abbrev pub run_at : ℤ → Period
  run_at u = record { from = u; to = run_end u }

  -- all runs, in order
  unfoldable pub runs_in : List Period
  runs_in = map run_at (filter begins_run (numbers_from window.from (unsigned_abs (window.to -ℤ window.from))))
