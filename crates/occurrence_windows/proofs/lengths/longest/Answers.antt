use Rattle.occurrence_windows.proofs.Series.{longest_lasts}
use Rattle.occurrence_windows.proofs.lengths.longest.Goals as goal

pub wall_seconds-requires : goal.wall_seconds-requires
wall_seconds-requires c = c.args.series.now.length_in

pub longest_of-requires-clause-own : goal.longest_of-requires-clause-own
longest_of-requires-clause-own c = rw c.wall_seconds.ensures c.args.series.now.length_in

pub longest_of-requires-clause-short : goal.longest_of-requires-clause-short
longest_of-requires-clause-short c = rw c.items.ensures c.args.series.now.exceptions_short

pub returns-clause-all : goal.returns-clause-all
returns-clause-all c =
    let own = rw c.wall_seconds.ensures at c.longest_of.ensures.own in
    let all = rw c.items.ensures at c.longest_of.ensures.all in
    longest_lasts c.args.series.now c.longest_of.result own all
