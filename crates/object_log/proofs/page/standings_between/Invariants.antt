use Rattle.object_log.specs.Standing.{AreStandings}
use Rattle.object_log.specs.Puts.{said}
use Rattle.object_log.proofs.page.standings_between.Given as goal

abbrev pub invariant-loop-state : goal.invariant-loop-state
invariant-loop-state g l = AreStandings (said l.log.told.items) l.since l.state l.standings
