use Rattle.std.proofs.Common.{◌≡◌, [], drop, length, map}
use Rattle.spec_site.specs.Configuration.{read_behind, user_in}
use Rattle.spec_json.specs.TreeData.{data_of}
use Rattle.session_doc.proofs.users.read_each.Given as goal

abbrev pub invariant-loop-item : goal.invariant-loop-item
invariant-loop-item l = record {
  found : read_behind (user_in l.accounts) l.users.items (map data_of (drop l.item-index l.items)) ≡ read_behind (user_in l.accounts) [] (map data_of l.items);
  each : length l.users.items ≡ l.item-index;
}
