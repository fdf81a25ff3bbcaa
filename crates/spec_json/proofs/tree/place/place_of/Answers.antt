use Rattle.std.proofs.Common.{rules}
use Rattle.std.proofs.lemmas.Fn.{always_returns_same}
use Rattle.spec_json.proofs.MemberLemmas.{key_order, searched}
use Rattle.spec_json.proofs.tree.place.place_of.Goals as goal

pub returns-clause-found : goal.returns-clause-found
returns-clause-found c =
    let position = c.binary_search_by.ensures.position (key_order c.args.key.now) (always_returns_same _ _ _ (λ a r f called. search rules)) in
    (searched c.args.key.now c.args.members.now c.binary_search_by.result c.requires c.binary_search_by.ensures.bound position).0

pub returns-clause-absent : goal.returns-clause-absent
returns-clause-absent c =
    let position = c.binary_search_by.ensures.position (key_order c.args.key.now) (always_returns_same _ _ _ (λ a r f called. search rules)) in
    (searched c.args.key.now c.args.members.now c.binary_search_by.result c.requires c.binary_search_by.ensures.bound position).1
