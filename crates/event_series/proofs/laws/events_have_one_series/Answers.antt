use Rattle.event_series.proofs.SeriesLemmas.{one_series, series_is_valid, series_parts_of}
use Rattle.event_series.proofs.ValidLemmas.{valid_has_series}
use Rattle.event_series.proofs.laws.events_have_one_series.Goals as goal

pub returns-clause-parts : goal.returns-clause-parts
returns-clause-parts c = series_parts_of

pub returns-clause-one : goal.returns-clause-one
returns-clause-one c = one_series

pub returns-clause-valid : goal.returns-clause-valid
returns-clause-valid c = series_is_valid

pub returns-clause-has : goal.returns-clause-has
returns-clause-has c = valid_has_series
