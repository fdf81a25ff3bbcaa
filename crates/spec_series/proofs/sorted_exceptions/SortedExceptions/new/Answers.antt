-- Why the sorted lists hold what the exceptions name and give.
use Rattle.std.proofs.Common.{◌∙◌, sym, ap, rules}
use Rattle.std.specs.List.{list_any}
use Rattle.std.proofs.lemmas.Fn.{always_returns_same}
use Rattle.spec_series.proofs.Given.{sorted_by_key}
use Rattle.spec_series.proofs.Searches.{sorted_alike}
use Rattle.spec_series.specs.Given.{gives_one}
use Rattle.spec_series.proofs.sorted_exceptions.SortedExceptions.new.Goals as goal

pub invariant_of-result : goal.invariant_of-result
invariant_of-result c = (
  λ p. sym (sorted_alike p c.in_ok-rids.rids.items c.sort_unstable.new.self.items c.sort_unstable.ensures.permutation) ∙ c.in_ok-rids.ensures p ∙ ap (list_any (λ x. p x.rid)) c.deref.ensures.value,
  (
    λ p. sym (sorted_alike p c.in_ok-given.given.items c.sort_unstable_by_key.new.self.items c.sort_unstable_by_key.ensures.permutation) ∙ c.in_ok-given.ensures p ∙ ap (list_any (gives_one p)) c.deref-2.ensures.value,
    (
      c.sort_unstable.ensures.sorted,
      (sorted_by_key c.sort_unstable_by_key.new.self.items (c.sort_unstable_by_key.ensures.sorted (λ o. (o.start, o.rid)) (always_returns_same _ _ _ (λ a r f k. search rules))), tt),
    ),
  ),
)
