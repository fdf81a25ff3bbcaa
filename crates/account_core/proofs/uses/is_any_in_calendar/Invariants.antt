use Rattle.std.proofs.Common.{◌≡◌, ◌+◌, ◌-◌}
use Rattle.account_core.proofs.LiveEvents.{has_event_from}
use Rattle.account_core.specs.Ledger.{changes}
use Rattle.account_core.proofs.uses.is_any_in_calendar.Given as goal

abbrev pub invariant-loop-before : goal.invariant-loop-before
invariant-loop-before l = has_event_from (changes l.ledger) l.calendar (l.before + 1) (l.ledger.tally.events - l.before)
    ≡ has_event_from (changes l.ledger) l.calendar 1 l.ledger.tally.events
