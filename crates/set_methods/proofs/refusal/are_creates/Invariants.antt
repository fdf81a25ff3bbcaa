use Rattle.std.proofs.Common.{◌≡◌, ◌&&◌, drop, map}
use Rattle.std.specs.List.{list_all}
use Rattle.spec_core.specs.Id.{is_id}
use Rattle.spec_json.specs.Patch.{is_object}
use Rattle.spec_json.specs.TreeData.{pair_of}
use Rattle.set_methods.proofs.refusal.are_creates.Given as goal

abbrev pub invariant-loop-create : goal.invariant-loop-create
invariant-loop-create l = list_all (λ p. is_id p.0 && is_object p.1) (map pair_of (drop l.create-index l.creates)) ≡ list_all (λ p. is_id p.0 && is_object p.1) (map pair_of l.creates)
