use Rattle.std.proofs.Common.{◌≡◌, List, ℕ, [], drop, map}
use Rattle.std.specs.List.{list_any}
use Rattle.spec_json.specs.Patch.{first_failing, is_prefix, on_members, placed_all}
use Rattle.spec_json.specs.TreeData.{data_of, pair_of}
use Rattle.patch_object.specs.Edits.{change_of, placed_each, pointer_of}
use Rattle.patch_object.proofs.patch.tested_edits.Given as goal

abbrev pub invariant-loop-member : goal.invariant-loop-member
invariant-loop-member l = record {
  failing : first_failing (data_of l.tree) (map pointer_of l.edits.items) (map pair_of (drop l.member-index l.member-items)) ≡ first_failing (data_of l.tree) [] l.patch;
  earlier : (ps : List (List ℕ)) → list_any (λ e. is_prefix e ps) l.earlier ≡ list_any (λ e. is_prefix e ps) (map pointer_of l.edits.items);
  placed : placed_all (on_members (placed_each (map change_of l.edits.items)) (data_of l.tree)) (map pair_of (drop l.member-index l.member-items)) ≡ placed_all (data_of l.tree) l.patch;
}
