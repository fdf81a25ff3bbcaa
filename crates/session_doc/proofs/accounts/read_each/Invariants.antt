use Rattle.std.proofs.Common.{◌≡◌, [], drop, length, map}
use Rattle.spec_site.specs.Configuration.{account_in, read_behind}
use Rattle.spec_json.specs.TreeData.{data_of}
use Rattle.session_doc.proofs.accounts.read_each.Given as goal

abbrev pub invariant-loop-item : goal.invariant-loop-item
invariant-loop-item l = record {
  found : read_behind account_in l.accounts.items (map data_of (drop l.item-index l.items)) ≡ read_behind account_in [] (map data_of l.items);
  each : length l.accounts.items ≡ l.item-index;
}
