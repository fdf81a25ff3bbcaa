use Rattle.std.proofs.Common.{◌∙◌, option_map, sym}
use Rattle.jiff_tz.specs.PosixText.{tz_view}
use Rattle.spec_json.specs.TreeData.{data_of}
use Rattle.query_filter.proofs.KeptLemmas.{unmet_ids, unmet_times}
use Rattle.query_filter.proofs.condition.EventTest.meets.Goals as goal

pub returns-then-not-has_ids : goal.returns-then-not-has_ids
returns-then-not-has_ids c =
    let s = c.args.self.now in
    sym (unmet_ids s.clock.now (option_map (λ x. x.now) s.series) (option_map (λ r. tz_view r.now) s.rule) (data_of s.event.now) c.args.condition.now (sym c.has_ids.ensures ∙ c.if-not-has_ids.true))

pub returns-then-not-meets_times : goal.returns-then-not-meets_times
returns-then-not-meets_times c =
    let s = c.args.self.now in
    sym (unmet_times s.clock.now (option_map (λ x. x.now) s.series) (option_map (λ r. tz_view r.now) s.rule) (data_of s.event.now) c.args.condition.now (sym c.meets_times.ensures ∙ c.if-not-meets_times.true))
