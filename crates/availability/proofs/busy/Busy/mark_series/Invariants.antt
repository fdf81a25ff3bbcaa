use Rattle.std.specs.Prelude.{◌≡◌, ℤ, ◌&&◌, ◌||◌, take}
use Rattle.std.specs.List.{list_any}
use Rattle.jiff_tz.specs.PosixText.{tz_view}
use Rattle.spec_windows.specs.BusyPeriods.{is_busy, lies_in, occupies}
use Rattle.spec_windows.specs.Clocks.{instant_in}
use Rattle.availability.proofs.busy.Busy.mark_series.Given as goal

abbrev pub invariant-loop-o : goal.invariant-loop-o
invariant-loop-o l = record {
  window : l.self.window ≡ l.fn.self.window;
  busy : (u : ℤ) → is_busy l.self.spans.items u
      ≡ (is_busy l.fn.self.spans.items u || list_any (λ o. lies_in u l.fn.self.window && occupies (instant_in (tz_view l.rule)) u o) (take l.o-index l.o-items));
}
