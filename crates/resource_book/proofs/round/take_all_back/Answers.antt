-- The last step is taken back, and then those before it.
use Rattle.std.proofs.Common.{arith, sym, ap, ◌∙◌}
use Rattle.resource_book.specs.Rounds.{before_steps}
use Rattle.resource_book.proofs.Steps.{fits-last, before-last}
use Rattle.resource_book.proofs.round.take_all_back.Goals as goal

pub take_back-requires-clause-fits : goal.take_back-requires-clause-fits
take_back-requires-clause-fits c = (fits-last c.pop.new.self.items c.in-Some.step c.loop-step.bookings.items (rw c.in-Some.ensures.items at c.loop-step.invariant.fits)).0

pub loop-step-preserved : goal.loop-step-preserved
loop-step-preserved c =
    let f = fits-last c.pop.new.self.items c.in-Some.step c.loop-step.bookings.items (rw c.in-Some.ensures.items at c.loop-step.invariant.fits) in
    let b = before-last c.pop.new.self.items c.in-Some.step c.loop-step.bookings.items in
    record {
      fits = rw c.take_back.ensures.items f.1;
      len = omega (arith, c.take_back.ensures.len, c.in-Some.ensures.cases, c.loop-step.invariant.len);
      capacity = omega (arith, c.take_back.ensures.capacity, c.loop-step.invariant.capacity);
      steps_capacity = omega (arith, c.in-Some.ensures.capacity, c.loop-step.invariant.steps_capacity);
      places = omega (arith, c.take_back.ensures.len, c.take_back.ensures.capacity, c.in-Some.ensures.cases, c.loop-step.invariant.places);
      before = rw c.take_back.ensures.items (sym b ∙ ap (λ l. before_steps l c.loop-step.bookings.items) (sym c.in-Some.ensures.items) ∙ c.loop-step.invariant.before);
    }
