use Rattle.std.proofs.Common.{◌==◌, ap, sym, ◌∙◌}
use Rattle.std.proofs.lemmas.List.Sorted.{IsNonDecreasingBy-from_sort, list_any-IsPermutation}
use Rattle.spec_history.specs.Pages.{is_in}
use Rattle.query_order.proofs.change.sorted.Goals as goal

pub returns-clause-rising : goal.returns-clause-rising
returns-clause-rising c = IsNonDecreasingBy-from_sort (λ x. x) _ c.sort_unstable.ensures.sorted

pub returns-clause-same : goal.returns-clause-same
returns-clause-same c = λ i id. (sym (list_any-IsPermutation (λ n. n == id) _ _ c.sort_unstable.ensures.permutation) ∙ ap (λ l. is_in l id) c.in_ok-sorted.ensures.items) i
