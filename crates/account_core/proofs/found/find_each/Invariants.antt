use Rattle.std.proofs.Common.{◌≡◌, ◌++◌, false, drop, map}
use Rattle.account_core.specs.Finds.{found_in, missing_in}
use Rattle.account_store.specs.Store.{entries}
use Rattle.cal_model.specs.Gets.{are_too_large, selected}
use Rattle.spec_history.specs.History.{changes_of}
use Rattle.spec_json.specs.TreeData.{data_of}
use Rattle.account_core.proofs.found.find_each.Given as goal

abbrev pub invariant-loop-id : goal.invariant-loop-id
invariant-loop-id l = record {
  list : map data_of l.listing.objects.items ++ map (selected l.asked) (found_in (changes_of (entries l.store)) l.kind (drop l.id-index l.ids)) ≡ map (selected l.asked) (found_in (changes_of (entries l.store)) l.kind l.ids);
  missing : l.listing.missing.items ++ missing_in (changes_of (entries l.store)) l.kind (drop l.id-index l.ids) ≡ missing_in (changes_of (entries l.store)) l.kind l.ids;
  small : are_too_large l.kind (map data_of l.listing.objects.items) ≡ false;
}
