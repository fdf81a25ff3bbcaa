-- What a query sees of events.
use Rattle.std.specs.Prelude.{Option}
use Rattle.spec_filters.specs.Matches.{event_matches}
use Rattle.spec_json.specs.declared.tree.Tree.{Tree}
use Rattle.spec_queries.specs.Items.{seen_where}
use Rattle.spec_queries.specs.declared.item.Item.{Item}
use Rattle.query_methods.specs.declared.sight.Sight.{Sight}

abbrev pub seen_by : Sight → Tree → Option Item
seen_by s = seen_where (event_matches s.zones.now s.floating.now s.filter.filter) s.zones.now s.floating.now
