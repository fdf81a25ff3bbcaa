use Rattle.query_filter.proofs.AsciiLemmas.{nothing_stands}
use Rattle.query_filter.proofs.ascii.stands_in.Goals as goal

pub returns-in-None : goal.returns-in-None
returns-in-None c = nothing_stands c.args.text.now c.args.needle.now c.in-None.ensures.cases
