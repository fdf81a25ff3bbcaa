use Rattle.std.proofs.Common.{arith}
use Rattle.std.proofs.lemmas.Bool.Decides.{nat_tests}
use Rattle.query_filter.proofs.LengthLemmas.{ascii_too_short, too_short}
use Rattle.query_filter.proofs.lengths.is_too_short.Goals as goal

pub returns-then-is_ascii : goal.returns-then-is_ascii
returns-then-is_ascii c h = ascii_too_short c.args.text.now c.args.needle.now c.if-is_ascii.ensures.cases c.utf8.needle (grind (arith, nat_tests))

pub returns : goal.returns
returns c h = too_short c.args.text.now c.args.needle.now c.utf8.text c.utf8.needle (grind (arith, nat_tests))
