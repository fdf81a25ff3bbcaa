use Rattle.std.proofs.Common.{◌≡◌, drop, fold, map}
use Rattle.spec_json.specs.TreeData.{pair_of}
use Rattle.event_source.specs.EventStreams.{known_behind, with_account}
use Rattle.event_source.proofs.known.known_behind.Given as goal

abbrev pub invariant-loop-account : goal.invariant-loop-account
invariant-loop-account l = fold with_account l.all (map pair_of (drop l.account-index l.account-items)) ≡ known_behind l.known l.text
