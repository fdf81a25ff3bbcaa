-- Why the first occurrence up to a last wall second is found for every series.
use Rattle.std.proofs.Common.{FitsSigned, w64, rules}
use Rattle.std.proofs.lemmas.Int.{to_z-of_z}
use Rattle.rule_expand.proofs.Range.{size_57, years_near}
use Rattle.rule_expand.proofs.Regular.{named_near}
use Rattle.rule_expand.proofs.series.next_until.Goals as goal

pub first_after-requires-clause-from : goal.first_after-requires-clause-from
first_after-requires-clause-from c =
    let f : FitsSigned w64 c.seconds.result = search rules in
    simp to_z-of_z (rw c.seconds.ensures (size_57 c.args.from c.requires.from))

pub first_after-requires-clause-start : goal.first_after-requires-clause-start
first_after-requires-clause-start c = years_near c.args.series.now.start c.args.series.now.start_in

pub first_after-requires-clause-rids : goal.first_after-requires-clause-rids
first_after-requires-clause-rids c = named_near c.args.series.now.exceptions c.args.series.now.exceptions_in

pub returns : goal.returns
returns c =
    let f : FitsSigned w64 c.seconds.result = search rules in
    rw (c.seconds.ensures, c.seconds_of.ensures, c.seconds_of-2.ensures) at (simp to_z-of_z at c.first_after.ensures)
