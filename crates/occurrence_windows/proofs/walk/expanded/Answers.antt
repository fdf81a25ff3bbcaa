use Rattle.std.proofs.Common.{rules}
use Rattle.jiff_tz.specs.PosixText.{tz_view}
use Rattle.spec_windows.specs.Clocks.{instant_in}
use Rattle.spec_windows.specs.Windows.{IsOverlapping}
use Rattle.occurrence_windows.proofs.Walking.{moves_on}
use Rattle.occurrence_windows.proofs.Overlapping.{at_first, overlapping_single, shows, showing_near}
use Rattle.occurrence_windows.proofs.Listing.{list_begun, list_ended, list_more}
use Rattle.occurrence_windows.proofs.Series.{rids_near, rule_instants, single}
use Rattle.occurrence_windows.proofs.walk.expanded.Goals as goal

pub loop-o-init : goal.loop-o-init
loop-o-init c = record {
  here = c.first_wall-here.ensures.near;
  seen = search rules;
  list = rw c.new-list.ensures.items (list_begun (IsOverlapping c.args.series.now (instant_in (tz_view c.args.rule.now)) c.args.window) c.first_wall-here.result
      (λ q m. at_first (instant_in (tz_view c.args.rule.now)) c.args.window q c.longest.result c.first_wall-here.result (rule_instants c.args.rule.now) (c.longest.ensures.all q m.0) c.first_wall-here.ensures.value m.1));
}

pub returns-in_default : goal.returns-in_default
returns-in_default c =
    list_ended (IsOverlapping c.args.series.now (instant_in (tz_view c.args.rule.now)) c.args.window) c.loop-o.here c.loop-o.seen c.loop-o.list.items c.loop-o.invariant.list c.in_default.ensures

pub loop-o-smaller : goal.loop-o-smaller
loop-o-smaller c =
    let first = c.in-Some.ensures in
    let near = showing_near c.in-Some.o.start (shows (instant_in (tz_view c.args.rule.now)) c.args.window c.in-Some.o (rule_instants c.args.rule.now) first.0.0.1) in
    moves_on c.loop-o.here c.loop-o.seen c.in-Some.o.start c.in-Some.o.rid first.0.1 c.loop-o.invariant.seen near (rids_near c.args.series.now c.in-Some.o first.0.0.0 near)

pub loop-o-preserved : goal.loop-o-preserved
loop-o-preserved c =
    let first = c.in-Some.ensures in
    let near = showing_near c.in-Some.o.start (shows (instant_in (tz_view c.args.rule.now)) c.args.window c.in-Some.o (rule_instants c.args.rule.now) first.0.0.1) in
    record {
      here = near;
      seen = rids_near c.args.series.now c.in-Some.o first.0.0.0 near;
      list = rw (c.in_ok-push.ensures.items, c.copied.ensures) (list_more (IsOverlapping c.args.series.now (instant_in (tz_view c.args.rule.now)) c.args.window) c.loop-o.here c.loop-o.seen c.loop-o.list.items c.in-Some.o
          (overlapping_single c.args.series.now (instant_in (tz_view c.args.rule.now)) c.args.window (single c.args.series.now)) c.loop-o.invariant.list first);
    }
