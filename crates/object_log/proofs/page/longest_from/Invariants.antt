use Rattle.std.proofs.Common.{◌≡◌, ◌≤◌, ◌+◌, ◌-◌, Some}
use Rattle.spec_history.specs.Pages.{greatest, is_within, size_of_page}
use Rattle.object_log.specs.Standing.{AreStandings}
use Rattle.object_log.specs.Puts.{said}
use Rattle.object_log.proofs.page.longest_from.Given as goal

abbrev pub invariant-loop-state : goal.invariant-loop-state
invariant-loop-state g l = record {
  standings : AreStandings (said l.log.told.items) l.since l.state l.standings;
  size : l.size ≡ size_of_page (said l.log.told.items) l.since l.state;
  small : l.size + l.since ≤ l.state;
  end : l.end ≡ greatest (λ j. is_within (Some l.most) (size_of_page (said l.log.told.items) l.since j)) l.since (l.state - l.since);
}
