use Rattle.std.proofs.Common.{◌≡◌, ◌≤◌, ◌+◌, ◌++◌, List, drop, length, map, true}
use Rattle.spec_snapshots.specs.Numbered.{are_numbered}
use Rattle.account_store.specs.Store.{entries, event_puts, spare}
use Rattle.cal_model.specs.Answer.{entries_from}
use Rattle.event_store.specs.ReadSeries.{AreRead}
use Rattle.spec_bookings.specs.SeriesPut.{series_put}
use Rattle.spec_history.specs.History.{changes_of}
use Rattle.spec_site.specs.TimeZones.{ZoneText}
use Rattle.account_core.proofs.pushing.push_all.Given as goal

abbrev pub invariant-loop-change : goal.invariant-loop-change
invariant-loop-change l = record {
  grown : entries l.store ≡ entries l.fn.store ++ entries_from l.stamp l.fn.first l.yielded;
  count : length (entries l.store) ≡ length (entries l.fn.store) + length l.yielded;
  enough : length l.fn.changes.items ≤ length l.yielded + spare l.store;
  part : l.part ≡ l.fn.first + length l.yielded;
  place : l.place ≡ length l.yielded;
  numbered : are_numbered (changes_of (entries l.store)) (drop (length l.yielded) l.fn.changes.items) ≡ true;
  left : drop l.place l.readings.items ≡ drop l.place l.fn.readings.items;
  len : length l.readings.items ≡ length l.fn.readings.items;
  series : (zones : List ZoneText) → map (λ r. r.series) l.fn.readings.items ≡ map (series_put zones) l.fn.changes.items → AreRead zones (event_puts l.fn.store) → AreRead zones (event_puts l.store);
}
