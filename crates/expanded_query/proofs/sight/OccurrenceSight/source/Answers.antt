-- Why what no exception of the series names, no override of the event does.
use Rattle.expanded_query.proofs.NamedLemmas.{names_overrides}
use Rattle.spec_json.specs.TreeData.{data_of}
use Rattle.expanded_query.proofs.sight.OccurrenceSight.source.Goals as goal

pub source_of-requires : goal.source_of-requires
source_of-requires c = names_overrides c.args.self.now.zones.now (data_of c.args.event.now.object.now) c.args.event.now.series c.requires
