use Rattle.std.proofs.Common.{arith, length, refl}
use Rattle.std.proofs.lemmas.Option.{slice_get_read}
use Rattle.occurrence_windows.proofs.Series.{lasts_more, lasts_all, short_at}
use Rattle.occurrence_windows.proofs.lengths.longest_of.Goals as goal

pub longer-best-requires-clause-short : goal.longer-best-requires-clause-short
longer-best-requires-clause-short c =
    let at = slice_get_read c.args.exceptions.now (length c.args.exceptions.now) c.loop-x.x-index c.x-item.result refl c.loop-x-test.true c.x-item.is in
    short_at c.args.exceptions.now c.loop-x.x-index c.x-item.result at c.requires.short

pub loop-x-preserved : goal.loop-x-preserved
loop-x-preserved c =
    let at = slice_get_read c.args.exceptions.now (length c.args.exceptions.now) c.loop-x.x-index c.x-item.result refl c.loop-x-test.true c.x-item.is in
    record {
      own = omega (arith, c.loop-x.invariant.own, c.longer-best.ensures.own);
      size = c.longer-best.ensures.size;
      all = lasts_more c.args.exceptions.now c.loop-x.x-index c.loop-x.best c.longer-best.result c.x-item.result c.longer-best.ensures.own at c.longer-best.ensures.other c.loop-x.invariant.all;
    }

pub returns-clause-all : goal.returns-clause-all
returns-clause-all c = lasts_all c.args.exceptions.now c.loop-x.x-index c.loop-x.best (omega (arith, c.loop-x-test.false)) c.loop-x.invariant.all
