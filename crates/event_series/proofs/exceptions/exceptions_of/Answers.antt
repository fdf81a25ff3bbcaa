use Rattle.spec_json.specs.TreeData.{data_of}
use Rattle.event_series.proofs.ExceptionLemmas.{exceptions_are_distinct, exceptions_are_few, exceptions_are_in_years, exceptions_are_short}
use Rattle.event_series.proofs.exceptions.exceptions_of.Goals as goal

pub returns-in-Ok-clause-few : goal.returns-in-Ok-clause-few
returns-in-Ok-clause-few c = exceptions_are_few c.args.zones.now (data_of c.args.event.now) c.in-Ok.exceptions c.overrides_of-ordered.ensures.ordered c.in-Ok.ensures.value

pub returns-in-Ok-clause-years : goal.returns-in-Ok-clause-years
returns-in-Ok-clause-years c = exceptions_are_in_years c.args.zones.now (data_of c.args.event.now) c.in-Ok.exceptions c.overrides_of-ordered.ensures.ordered c.in-Ok.ensures.value

pub returns-in-Ok-clause-short : goal.returns-in-Ok-clause-short
returns-in-Ok-clause-short c = exceptions_are_short c.args.zones.now (data_of c.args.event.now) c.in-Ok.exceptions c.overrides_of-ordered.ensures.ordered c.in-Ok.ensures.value

pub returns-in-Ok-clause-distinct : goal.returns-in-Ok-clause-distinct
returns-in-Ok-clause-distinct c = exceptions_are_distinct c.args.zones.now (data_of c.args.event.now) c.in-Ok.exceptions c.overrides_of-ordered.ensures.ordered c.in-Ok.ensures.value
