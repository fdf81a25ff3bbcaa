use Rattle.std.proofs.Common.{ap, flat_map, ◌∙◌}
use Rattle.std.proofs.lemmas.List.{take_all}
use Rattle.account_store.proofs.LiveLemmas.{objects_of_live}
use Rattle.account_store.specs.Store.{entries}
use Rattle.spec_history.specs.History.{changes_of, live_object, some_object}
use Rattle.account_store.proofs.store.Store.live.Goals as goal

pub returns : goal.returns
returns c =
    let cs = changes_of (entries c.args.self.now) in
    let kind = c.args.kind in
    c.loop-id.invariant ∙ ap (flat_map (λ id. some_object (live_object cs kind id))) (take_all c.loop-id.id-index c.deref-id-items.result.now c.loop-id-test.false ∙ c.deref-id-items.ensures.value ∙ c.in_ok-ids.ensures) ∙ objects_of_live cs kind
