use Rattle.std.proofs.Common.{◌≡◌, ◌≤◌, ◌+◌, drop, filter, length, map}
use Rattle.spec_batch.specs.References.{is_reference}
use Rattle.spec_json.specs.TreeData.{pair_of}
use Rattle.result_refs.proofs.forms.has_too_many.Given as goal

abbrev pub invariant-loop-member : goal.invariant-loop-member
invariant-loop-member l = record {
  sum : l.count + length (filter is_reference (map pair_of (drop l.member-index l.member-items))) ≡ length (filter is_reference l.arguments);
  most : l.count ≤ l.member-index;
}
