use Rattle.std.proofs.Common.{◌∙◌, None, Option, Some, ap, option_map, sym}
use Rattle.spec_series.specs.declared.series.Series.{Series}
use Rattle.query_filter.proofs.SkipLemmas.{kept_says}
use Rattle.query_filter.proofs.zoned.ZonedFilter.may_match.Goals as goal
use Rattle.query_filter.specs.Skips.{may_match}

pub returns-in-Some-clause-value : goal.returns-in-Some-clause-value
returns-in-Some-clause-value c =
    let series : Option Series = option_map (λ s. s.now) c.args.series in
    c.may_overlap.ensures
    ∙ kept_says (record { filter = c.self.inside.filter; clock = c.self.inside.clock }) series (Some c.in-Some.times) (sym c.self.invariant.0 ∙ c.in-Some.is)
    ∙ ap (λ f. may_match f series) c.self.view_is

pub returns-in-None-clause-value : goal.returns-in-None-clause-value
returns-in-None-clause-value c =
    let series : Option Series = option_map (λ s. s.now) c.args.series in
    kept_says (record { filter = c.self.inside.filter; clock = c.self.inside.clock }) series None (sym c.self.invariant.0 ∙ c.in-None.is)
    ∙ ap (λ f. may_match f series) c.self.view_is
