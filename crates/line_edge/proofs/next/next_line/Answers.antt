use Rattle.line_edge.specs.declared.next.NextLine.TheVariants.{NoMemory}
use Rattle.line_edge.proofs.LineLemmas.{gives, moved_all, moved_more}
use Rattle.line_edge.proofs.next.next_line.Goals as goal

pub loop-line-preserved : goal.loop-line-preserved
loop-line-preserved g c =
    let came = moved_more c.loop-line.invariant.moved c.fill.ensures.took in
    let how = c.in-Part.ensures in
    record {
      moved = rw how.1 (moved_all came how.0);
      unbroken = how.2;
      short = how.3;
    }

pub returns-in-NoMemory : goal.returns-in-NoMemory
returns-in-NoMemory g c = gives {answer = NoMemory} (moved_more c.loop-line.invariant.moved c.fill.ensures.took) tt
