use Rattle.std.proofs.Common.{◌≡◌, ◌+◌, ◌≤◌, vec_len, vec_capacity}
use Rattle.resource_book.specs.Rounds.{before_steps, AreWaysBack}
use Rattle.resource_book.proofs.round.take_all_back.Given as goal

abbrev pub invariant-loop-step : goal.invariant-loop-step
invariant-loop-step l = record {
  fits : AreWaysBack l.steps.items l.bookings.items;
  len : vec_len l.bookings + vec_len l.steps ≤ vec_len l.initial.bookings + vec_len l.initial.steps;
  capacity : vec_capacity l.initial.bookings ≤ vec_capacity l.bookings;
  steps_capacity : vec_capacity l.steps ≡ vec_capacity l.initial.steps;
  places : vec_len l.bookings + vec_len l.steps ≤ vec_capacity l.bookings;
  before : before_steps l.steps.items l.bookings.items ≡ before_steps l.initial.steps.items l.initial.bookings.items;
}

abbrev pub decreases-loop-step : goal.decreases-loop-step
decreases-loop-step l = vec_len l.steps
