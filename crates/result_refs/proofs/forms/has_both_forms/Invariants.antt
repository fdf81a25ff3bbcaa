use Rattle.std.proofs.Common.{◌≡◌, drop, map}
use Rattle.spec_json.specs.TreeData.{pair_of}
use Rattle.result_refs.proofs.FormLemmas.{walk}
use Rattle.result_refs.proofs.forms.has_both_forms.Given as goal

abbrev pub invariant-loop-member : goal.invariant-loop-member
invariant-loop-member l = walk (map pair_of (drop l.member-index l.member-items)) (map pair_of l.rest) ≡ walk l.arguments l.arguments
