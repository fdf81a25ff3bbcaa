use Rattle.std.proofs.Common.{rules, ◌∙◌, ◌-ℤ◌, pos, ap}
use Rattle.std.proofs.lemmas.Result.{IfOk-weaker}
use Rattle.spec_windows.specs.BusyPeriods.{are_runs, is_busy}
use Rattle.availability.proofs.Joining.{by_start, runs_busy, runs_within}
use Rattle.occurrence_windows.proofs.SortedKeys.{put_in_order}
use Rattle.availability.specs.Merging.{joined_periods}
use Rattle.availability.proofs.periods.runs_of.Goals as goal

pub returns-clause-busy : goal.returns-clause-busy
returns-clause-busy c =
    let order = put_in_order by_start c.sort_by_key.new.self.items c.in_ok-sort_by_key.ensures.sorted (λ a r q k. search rules) in
    IfOk-weaker c.joined.result _ _ (λ ps same u.
    ap (λ x. is_busy x u) (same ∙ ap joined_periods c.deref.ensures.value) ∙ runs_busy c.args.spans.items c.sort_by_key.new.self.items c.sort_by_key.ensures.permutation order u) c.joined.ensures

pub returns-clause-runs : goal.returns-clause-runs
returns-clause-runs c =
    let order = put_in_order by_start c.sort_by_key.new.self.items c.in_ok-sort_by_key.ensures.sorted (λ a r q k. search rules) in
    IfOk-weaker c.joined.result _ _ (λ ps same w inside.
    ap (λ x. are_runs (w.from -ℤ pos 1) w.to x) (same ∙ ap joined_periods c.deref.ensures.value) ∙ runs_within w c.args.spans.items c.sort_by_key.new.self.items c.sort_by_key.ensures.permutation order inside) c.joined.ensures
