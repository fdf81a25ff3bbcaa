use Rattle.std.proofs.Common.{◌≡◌, take}
use Rattle.spec_json.proofs.tree.+copy.Given as goal

abbrev pub invariant-TreeList::copy-loop-item : goal.invariant-TreeList::copy-loop-item
invariant-TreeList::copy-loop-item l = l.copies.items ≡ take l.item-index l.item-items

abbrev pub invariant-TreeObject::copy-loop-member : goal.invariant-TreeObject::copy-loop-member
invariant-TreeObject::copy-loop-member l = l.copies.items ≡ take l.member-index l.member-items
