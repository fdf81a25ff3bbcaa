use Rattle.std.proofs.Common.{◌∙◌, Some, sym}
use Rattle.jiff_tz.specs.PosixText.{tz_view}
use Rattle.spec_series.specs.Occurrences.{IsOccurrence}
use Rattle.spec_windows.specs.Clocks.{instant_in}
use Rattle.occurrence_windows.specs.Listing.{IsAfter}
use Rattle.occurrence_windows.proofs.Walking.{moves_on}
use Rattle.occurrence_windows.proofs.Overlapping.{none_left, found_first, onward_more, left_more, start_in}
use Rattle.occurrence_windows.proofs.Series.{lengths, rids_near, rule_instants, single}
use Rattle.rule_expand.proofs.From.{first_of_all}
use Rattle.rule_expand.proofs.Sets.{int_le_is}
use Rattle.occurrence_windows.proofs.walk.next_overlapping.Goals as goal

pub returns-in_default : goal.returns-in_default
returns-in_default c =
    none_left c.args.series.now (instant_in (tz_view c.args.rule.now)) c.args.window c.args.from c.loop-o.here c.last_wall-last.result c.args.past c.loop-o.seen
    (rule_instants c.args.rule.now) c.last_wall-last.ensures.value c.loop-o.invariant.left c.in_default.ensures

pub overlaps_window-requires-clause-start : goal.overlaps_window-requires-clause-start
overlaps_window-requires-clause-start c =
    let first = first_of_all (IsAfter (IsOccurrence c.args.series.now) c.loop-o.here c.loop-o.seen) (Some c.last_wall-last.result) c.in-Some.o c.in-Some.ensures in
    let upto = int_le_is c.in-Some.o.start c.last_wall-last.result c.in-Some.ensures.0.1 in
    start_in (IsOccurrence c.args.series.now) c.loop-o.here c.last_wall-last.result c.loop-o.seen c.in-Some.o first c.loop-o.invariant.here c.last_wall-last.ensures.near upto

pub overlaps_window-requires-clause-length : goal.overlaps_window-requires-clause-length
overlaps_window-requires-clause-length c = lengths c.args.series.now c.in-Some.o c.in-Some.ensures.0.0.0

pub returns-then-overlaps_window : goal.returns-then-overlaps_window
returns-then-overlaps_window c =
    let first = first_of_all (IsAfter (IsOccurrence c.args.series.now) c.loop-o.here c.loop-o.seen) (Some c.last_wall-last.result) c.in-Some.o c.in-Some.ensures in
    found_first c.args.series.now (instant_in (tz_view c.args.rule.now)) c.args.window c.args.from c.loop-o.here c.args.past c.loop-o.seen c.in-Some.o
    c.loop-o.invariant.onward c.loop-o.invariant.left first (sym c.overlaps_window.ensures ∙ c.if-overlaps_window.true)

pub loop-o-smaller : goal.loop-o-smaller
loop-o-smaller c =
    let first = first_of_all (IsAfter (IsOccurrence c.args.series.now) c.loop-o.here c.loop-o.seen) (Some c.last_wall-last.result) c.in-Some.o c.in-Some.ensures in
    let upto = int_le_is c.in-Some.o.start c.last_wall-last.result c.in-Some.ensures.0.1 in
    let near = start_in (IsOccurrence c.args.series.now) c.loop-o.here c.last_wall-last.result c.loop-o.seen c.in-Some.o first c.loop-o.invariant.here c.last_wall-last.ensures.near upto in
    moves_on c.loop-o.here c.loop-o.seen c.in-Some.o.start c.in-Some.o.rid first.0.1 c.loop-o.invariant.seen near (rids_near c.args.series.now c.in-Some.o first.0.0 near)

pub loop-o-preserved : goal.loop-o-preserved
loop-o-preserved c =
    let first = first_of_all (IsAfter (IsOccurrence c.args.series.now) c.loop-o.here c.loop-o.seen) (Some c.last_wall-last.result) c.in-Some.o c.in-Some.ensures in
    let upto = int_le_is c.in-Some.o.start c.last_wall-last.result c.in-Some.ensures.0.1 in
    let near = start_in (IsOccurrence c.args.series.now) c.loop-o.here c.last_wall-last.result c.loop-o.seen c.in-Some.o first c.loop-o.invariant.here c.last_wall-last.ensures.near upto in
    record {
      here = near;
      seen = rids_near c.args.series.now c.in-Some.o first.0.0 near;
      onward = onward_more c.args.series.now (instant_in (tz_view c.args.rule.now)) c.args.window c.args.from c.loop-o.here c.args.past c.loop-o.seen c.in-Some.o c.loop-o.invariant.onward first;
      left = left_more c.args.series.now (instant_in (tz_view c.args.rule.now)) c.args.window c.args.from c.loop-o.here c.args.past c.loop-o.seen c.in-Some.o
          (single c.args.series.now) c.loop-o.invariant.left first (sym c.overlaps_window.ensures ∙ c.if-overlaps_window.false);
    }
