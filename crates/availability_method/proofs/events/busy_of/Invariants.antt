use Rattle.std.specs.Prelude.{◌≡◌, ◌&&◌, ℤ, map, take}
use Rattle.spec_availability.specs.BusyInstants.{is_taken_up}
use Rattle.spec_windows.specs.BusyPeriods.{is_busy, lies_in}
use Rattle.availability_method.proofs.events.busy_of.Given as goal

abbrev pub invariant-loop-event : goal.invariant-loop-event
invariant-loop-event l = record {
  window : l.busy.window ≡ l.fn.window;
  busy : (u : ℤ) → is_busy l.busy.spans.items u ≡ (lies_in u l.fn.window && is_taken_up l.zones l.floating (map (λ e. e.object.now) (take l.event-index l.events)) u);
}
