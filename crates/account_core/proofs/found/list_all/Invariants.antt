use Rattle.std.proofs.Common.{◌≡◌, ◌++◌, [], false, drop, map}
use Rattle.cal_model.specs.Gets.{are_too_large, selected}
use Rattle.spec_json.specs.TreeData.{data_of}
use Rattle.account_core.proofs.found.list_all.Given as goal

abbrev pub invariant-loop-object : goal.invariant-loop-object
invariant-loop-object l = record {
  list : map data_of l.listing.objects.items ++ map (selected l.asked) (map (λ t. t.now) (drop l.object-index l.objects)) ≡ map (selected l.asked) (map (λ t. t.now) l.objects);
  missing : l.listing.missing.items ≡ [];
  small : are_too_large l.kind (map data_of l.listing.objects.items) ≡ false;
}
