use Rattle.std.proofs.Common.{◌≡◌, flat_map, map, take}
use Rattle.spec_history.specs.History.{changes_of, live_object, some_object}
use Rattle.account_store.specs.Store.{entries}
use Rattle.account_store.proofs.store.Store.live.Given as goal

abbrev pub invariant-loop-id : goal.invariant-loop-id
invariant-loop-id l = map (λ t. t.now) l.live.items ≡ flat_map (λ id. some_object (live_object (changes_of (entries l.self)) l.kind id)) (take l.id-index l.id-items)
