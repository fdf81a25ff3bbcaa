use Rattle.spec_series.specs.SeriesLimits.{is_named}
use Rattle.spec_series.proofs.exception.Exceptions.names.Goals as goal

pub returns-in-None : goal.returns-in-None
unfolding is_named
returns-in-None c = rw (← c.self.view_is, c.in-None.is)
