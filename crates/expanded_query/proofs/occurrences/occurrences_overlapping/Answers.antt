use Rattle.std.proofs.Common.{rules}
use Rattle.jiff_tz.specs.PosixText.{tz_view}
use Rattle.expanded_query.proofs.Sorted.{by_rid, sorted_are, sorted_in_years}
use Rattle.occurrence_windows.proofs.SortedKeys.{put_in_order}
use Rattle.expanded_query.proofs.occurrences.occurrences_overlapping.Goals as goal

pub returns-clause-value : goal.returns-clause-value
returns-clause-value c =
    sorted_are c.args.series.now (tz_view c.args.rule.now) c.args.window c.in_ok-list.list.items c.sort_by_key.new.self.items c.in_ok-list.ensures c.sort_by_key.ensures.permutation
    (put_in_order by_rid c.sort_by_key.new.self.items c.in_ok-sort_by_key.ensures.sorted (λ a r q k. search rules))

pub returns-clause-years : goal.returns-clause-years
returns-clause-years c =
    sorted_in_years c.args.series.now (tz_view c.args.rule.now) c.args.window c.in_ok-list.list.items c.sort_by_key.new.self.items c.in_ok-list.ensures c.sort_by_key.ensures.permutation
