use Rattle.std.proofs.Common.{◌∙◌, arith, length, refl}
use Rattle.std.proofs.lemmas.Option.{slice_get_read}
use Rattle.jiff_tz.specs.PosixText.{tz_view}
use Rattle.spec_windows.specs.Clocks.{instant_in}
use Rattle.availability.specs.Merging.{limits}
use Rattle.availability.proofs.Marking.{listed_at, marks_more, marks_all}
use Rattle.occurrence_windows.proofs.Series.{lengths, rule_instants}
use Rattle.availability.proofs.busy.Busy.mark_series.Goals as goal

pub mark_occurrence-requires-clause-start : goal.mark_occurrence-requires-clause-start
mark_occurrence-requires-clause-start c =
    let list = rw (c.limits_of.ensures, ← c.deref-o-items.ensures.value) at c.in_ok-occurrences.ensures in
    let at = slice_get_read c.deref-o-items.result.now (length c.deref-o-items.result.now) c.loop-o.o-index c.o-item.result refl c.loop-o-test.true c.o-item.is in
    (listed_at c.args.series.now (instant_in (tz_view c.args.rule.now)) (limits c.args.self.now.window) c.deref-o-items.result.now c.loop-o.o-index c.o-item.result at
    (rule_instants c.args.rule.now) list).1

pub mark_occurrence-requires-clause-length : goal.mark_occurrence-requires-clause-length
mark_occurrence-requires-clause-length c =
    let list = rw (c.limits_of.ensures, ← c.deref-o-items.ensures.value) at c.in_ok-occurrences.ensures in
    let at = slice_get_read c.deref-o-items.result.now (length c.deref-o-items.result.now) c.loop-o.o-index c.o-item.result refl c.loop-o-test.true c.o-item.is in
    lengths c.args.series.now _ (listed_at c.args.series.now (instant_in (tz_view c.args.rule.now)) (limits c.args.self.now.window) c.deref-o-items.result.now c.loop-o.o-index c.o-item.result at
    (rule_instants c.args.rule.now) list).0

pub loop-o-preserved : goal.loop-o-preserved
loop-o-preserved c = let at = slice_get_read c.deref-o-items.result.now (length c.deref-o-items.result.now) c.loop-o.o-index c.o-item.result refl c.loop-o-test.true c.o-item.is in record {
  window = c.mark_occurrence.ensures.window ∙ c.loop-o.invariant.window;
  busy = marks_more (instant_in (tz_view c.args.rule.now)) c.args.self.now.window c.args.self.now.spans.items c.loop-o.self.spans.items c.mark_occurrence.new.self.spans.items c.deref-o-items.result.now c.loop-o.o-index c.o-item.result at
      c.loop-o.invariant.busy (rw c.loop-o.invariant.window at c.in_ok-mark_occurrence.ensures.busy);
}

pub returns-clause-busy : goal.returns-clause-busy
returns-clause-busy c =
    let list = rw (c.limits_of.ensures, ← c.deref-o-items.ensures.value) at c.in_ok-occurrences.ensures in
    marks_all c.args.series.now (instant_in (tz_view c.args.rule.now)) c.args.self.now.window c.args.self.now.spans.items c.loop-o.self.spans.items c.deref-o-items.result.now c.loop-o.o-index (omega (arith, c.loop-o-test.false)) list c.loop-o.invariant.busy
