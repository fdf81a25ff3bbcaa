use Rattle.std.proofs.Common.{◌∙◌, sym}
use Rattle.spec_filters.specs.Matches.{instants_asked}
use Rattle.spec_json.specs.Parts.{members_in}
use Rattle.query_filter.proofs.KeptLemmas.{kept_window}
use Rattle.query_filter.proofs.zoned.ZonedFilter.window.Goals as goal

pub returns-in-Some-clause-value : goal.returns-in-Some-clause-value
returns-in-Some-clause-value c =
    kept_window c.self.inside.clock c.self.inside.filter c.in-Some.times (sym c.self.invariant.0 ∙ (λ i. (sym c.self-inside.view_is i).times) ∙ c.in-Some.is)
    ∙ (λ i. instants_asked (c.self.view_is i).clock (members_in (c.self.view_is i).filter))

pub returns-in-None-clause-value : goal.returns-in-None-clause-value
returns-in-None-clause-value c =
    c.window_asked.ensures.value
    ∙ (λ i. instants_asked (c.self-inside.view_is i).clock (members_in (c.self-inside.view_is i).filter))
    ∙ (λ i. instants_asked (c.self.view_is i).clock (members_in (c.self.view_is i).filter))
