use Rattle.std.proofs.Common.{◌∙◌, sym}
use Rattle.std.specs.Str.{bytes_eq}
use Rattle.expanded_query.proofs.WindowLemmas.{first_behind, first_here}
use Rattle.expanded_query.specs.Founds.{id_at}
use Rattle.expanded_query.proofs.anchor.place_of.Goals as goal

pub returns-then-branch-clause-value : goal.returns-then-branch-clause-value
returns-then-branch-clause-value c =
    first_here (bytes_eq c.args.anchor.now) id_at c.args.results.now c.loop-place.place c.index-results-place.result c.loop-place-test.true c.index-results-place.is c.loop-place.invariant
    (sym c.in_ok-has_id.ensures ∙ c.if-branch.true)

pub loop-place-preserved : goal.loop-place-preserved
loop-place-preserved c =
    first_behind (bytes_eq c.args.anchor.now) id_at c.args.results.now c.loop-place.place c.index-results-place.result c.loop-place-test.true c.index-results-place.is c.loop-place.invariant
    (sym c.in_ok-has_id.ensures ∙ c.if-branch.false)
