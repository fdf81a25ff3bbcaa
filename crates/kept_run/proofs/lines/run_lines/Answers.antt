use Rattle.kept_run.proofs.StepLemmas.{at_end, behind_all, ends_behind_last, goes_on, no_memory, read_fault, standing_start, stops, stops_at_last, too_long}
use Rattle.kept_run.proofs.lines.run_lines.Goals as goal

pub loop-count-init : goal.loop-count-init
loop-count-init g c = standing_start c.new-rest.ensures

pub loop-count-preserved : goal.loop-count-preserved
loop-count-preserved g c = goes_on c.loop-count.invariant c.in-Line.ensures c.deref.ensures.value c.in-Written.ensures

pub returns-in_default : goal.returns-in_default
returns-in_default g c =
    stops c.loop-count.invariant c.loop-count-test.true c.in-Line.ensures c.deref.ensures.value c.run_line.ensures c.stopped.ensures

pub returns-in-Written-run_line : goal.returns-in-Written-run_line
returns-in-Written-run_line g c = ends_behind_last c.loop-count.invariant c.loop-count-test.true c.in-Last.ensures c.deref-in-Last.ensures.value c.in-Written-run_line.ensures c.ended.ensures

pub returns-in_default-run_line : goal.returns-in_default-run_line
returns-in_default-run_line g c =
    stops_at_last c.loop-count.invariant c.loop-count-test.true c.in-Last.ensures c.deref-in-Last.ensures.value c.run_line-in-Last.ensures c.stopped-in_default-run_line.ensures

pub returns : goal.returns
returns g c = behind_all c.loop-count.invariant c.loop-count-test.false c.loop-count.auto.count-end c.status_behind.ensures.took c.status_behind.ensures.how c.ended-2.ensures

pub returns-in-End : goal.returns-in-End
returns-in-End g c = at_end c.loop-count.invariant c.loop-count-test.true c.in-End.ensures c.ended-in-End.ensures

pub returns-in-TooLong : goal.returns-in-TooLong
returns-in-TooLong g c = too_long c.loop-count.invariant c.loop-count-test.true c.in-TooLong.ensures c.ended-in-TooLong.ensures

pub returns-in-ReadFault : goal.returns-in-ReadFault
returns-in-ReadFault g c = read_fault c.loop-count.invariant c.loop-count-test.true c.in-ReadFault.ensures c.ended-in-ReadFault.ensures

pub returns-in-NoMemory : goal.returns-in-NoMemory
returns-in-NoMemory g c = no_memory c.loop-count.invariant c.loop-count-test.true c.in-NoMemory.ensures c.ended-in-NoMemory.ensures
