use Rattle.spec_json.specs.TreeData.{data_of}
use Rattle.event_series.proofs.SeriesLemmas.{one_series}
use Rattle.event_series.proofs.read.series_of.Goals as goal

pub returns-clause-value : goal.returns-clause-value
returns-clause-value c =
    one_series c.args.zones.now (data_of c.args.event.now) _ c.requires
    record {
      start = c.start_of.ensures.value;
      length = c.length_of.ensures.value;
      occupying = c.is_occupying.ensures;
      rules = c.in_ok-rules.ensures.value;
      exceptions = c.in_ok-exceptions.ensures.value;
    }
