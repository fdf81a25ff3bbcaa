-- The quotient is rounded up, since all but a second of a quarter were added.
use Rattle.std.proofs.Common.{ap, arith, pos, ◌*ℤ◌, ◌≡◌, ◌∙◌}
use Rattle.std.proofs.lemmas.Int.{ints}
use Rattle.slot_find.proofs.QuarterLemmas.{first_is}
use Rattle.slot_find.proofs.quarters.first_quarter.Goals as goal

pub returns : goal.returns
returns c =
    let size = c.quarter_number.ensures.size in
    let same : c.new.result ≡ c.quarter_number.result *ℤ pos 900 = omega (arith, ints, c.new.ensures, size) in
    first_is c.args.from c.new.result (same ∙ ap (λ m. m *ℤ pos 900) c.quarter_number.ensures.value)
