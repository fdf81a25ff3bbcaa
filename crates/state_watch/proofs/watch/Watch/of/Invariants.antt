use Rattle.std.proofs.Common.{◌≡◌, flat_map, take}
use Rattle.spec_push.specs.Watching.{watched_in}
use Rattle.state_watch.proofs.watch.Watch.of.Given as goal

abbrev pub invariant-loop-grant : goal.invariant-loop-grant
invariant-loop-grant l = l.states.items ≡ flat_map (watched_in l.types) (take l.grant-index l.grant-items)
