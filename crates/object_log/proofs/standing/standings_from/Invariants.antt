use Rattle.std.proofs.Common.{◌≡◌, ℕ, nat_eq}
use Rattle.std.specs.HashMap.{get}
use Rattle.spec_history.specs.Pages.{is_touched}
use Rattle.object_log.specs.Puts.{said}
use Rattle.object_log.specs.Standing.{only_if, standing}
use Rattle.object_log.proofs.standing.standings_from.Given as goal

abbrev pub invariant-loop-state : goal.invariant-loop-state
invariant-loop-state g l = (id : ℕ) → get nat_eq l.standings id ≡ only_if (is_touched (said l.log.told.items) l.since l.state id) (standing (said l.log.told.items) l.since l.since id)
