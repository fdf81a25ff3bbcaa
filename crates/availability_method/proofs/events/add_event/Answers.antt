use Rattle.std.proofs.Common.{◌∙◌, ap, option_map, sym}
use Rattle.jiff_tz.specs.PosixText.{tz_view}
use Rattle.spec_json.specs.TreeData.{data_of}
use Rattle.spec_recurrence.specs.SeriesOf.{series_in}
use Rattle.spec_windows.specs.ZoneRules.{rule_of_event}
use Rattle.availability_method.proofs.BusyLemmas.{one_more_by}
use Rattle.availability_method.proofs.events.add_event.Goals as goal

pub returns-clause-busy : goal.returns-clause-busy
returns-clause-busy c = one_more_by c.add.result c.args.busy.now.window c.args.busy.now.spans.items c.add.new.self.spans.items
    (series_in c.args.zones.now (data_of c.args.event.now.object.now)) (rule_of_event c.args.zones.now c.args.floating.now (data_of c.args.event.now.object.now)) c.in-Some.series.now (tz_view c.in-Some-rule_of_event.rule)
    (sym c.requires ∙ ap (option_map (λ s. s.now)) c.in-Some.is) (sym c.in-Some-rule_of_event.ensures) c.add.ensures.busy
