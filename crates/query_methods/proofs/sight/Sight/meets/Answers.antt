use Rattle.std.proofs.Common.{Option, option_map}
use Rattle.spec_json.specs.TreeData.{data_of}
use Rattle.spec_series.specs.declared.series.Series.{Series}
use Rattle.query_methods.proofs.SightLemmas.{not_matched}
use Rattle.query_methods.proofs.sight.Sight.meets.Goals as goal

pub returns-then-not-may_match : goal.returns-then-not-may_match
returns-then-not-may_match c =
    let s = c.args.self.now in
    let event = c.args.event.now in
    let series : Option Series = option_map (λ x. x.now) event.series in
    not_matched s.filter series s.zones.now s.floating.now (data_of event.object.now) (c.may_match.ensures.none c.if-not-may_match.true) c.requires s.zoned
