use Rattle.std.proofs.Common.{◌≡◌, ◌++◌, [], true}
use Rattle.account_store.specs.Opening.{opening_entries, opening_floor, opening_puts}
use Rattle.event_store.specs.ReadSeries.{AreRead}
use Rattle.spec_history.specs.History.{changes_of}
use Rattle.spec_history.specs.declared.entry.Kind.{Kind}
use Rattle.spec_snapshots.specs.Numbered.{are_numbered}
use Rattle.store_opening.proofs.open.push_all.Given as goal

abbrev pub invariant-loop-entry : goal.invariant-loop-entry
invariant-loop-entry l = record {
  grown : opening_entries l.opening ≡ opening_entries l.fn.opening ++ l.yielded;
  read : AreRead l.zones (opening_puts l.opening);
  floors : (kind : Kind) → opening_floor l.opening kind ≡ opening_floor l.fn.opening kind;
  numbered : are_numbered [] (changes_of (opening_entries l.opening)) ≡ true;
}
