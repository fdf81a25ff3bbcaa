-- Why what is read is within the limits.
use Rattle.std.proofs.Common.{◌∙◌, sym, codes}
use Rattle.spec_json.specs.TreeData.{data_of}
use Rattle.std.proofs.lemmas.Bool.{and_from}
use Rattle.spec_series.specs.RuleLimits.{is_month, is_place_to}
use Rattle.spec_series.specs.RuleObjects.{frequency_of, month_in, place_in, present_at}
use Rattle.rule_read.proofs.ListLemmas.{days_pass, each_pass, month_pass, place_pass}
use Rattle.rule_read.proofs.read.with_places.Goals as goal

pub settled-requires-clause-parts : goal.settled-requires-clause-parts
settled-requires-clause-parts c =
    let d = data_of c.args.tree.now in
    let read = c.requires in
    and_from _ _ (days_pass (present_at (codes "byDay") d) c.args.frame.frequency (frequency_of d) c.args.by_day read.frequency read.by_day)
    (and_from _ _ (each_pass (place_in 31) (is_place_to 31) (place_pass 31) (present_at (codes "byMonthDay") d) c.args.by_month_day (sym read.by_month_day))
    (and_from _ _ (each_pass month_in is_month month_pass (present_at (codes "byMonth") d) c.args.by_month (sym read.by_month))
    (each_pass (place_in 366) (is_place_to 366) (place_pass 366) (present_at (codes "bySetPosition") d) c.in-Some-2.by_set (sym c.in-Some-2.is ∙ (rw c.present_at-2.ensures at c.in_ok-by_set.ensures)))))

pub settled-requires-clause-year_days : goal.settled-requires-clause-year_days
settled-requires-clause-year_days c =
    each_pass (place_in 366) (is_place_to 366) (place_pass 366) (present_at (codes "byYearDay") (data_of c.args.tree.now)) c.in-Some.by_year_day (sym c.in-Some.is ∙ (rw c.present_at.ensures at c.in_ok-by_year_day.ensures))
