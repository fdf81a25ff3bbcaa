use Rattle.std.proofs.Common.{◌≡◌, drop, map}
use Rattle.std.specs.List.{list_all}
use Rattle.spec_json.specs.Patch.{is_object}
use Rattle.spec_json.specs.TreeData.{pair_of}
use Rattle.set_methods.proofs.refusal.are_updates.Given as goal

abbrev pub invariant-loop-update : goal.invariant-loop-update
invariant-loop-update l = list_all (λ p. is_object p.1) (map pair_of (drop l.update-index l.updates)) ≡ list_all (λ p. is_object p.1) (map pair_of l.updates)
