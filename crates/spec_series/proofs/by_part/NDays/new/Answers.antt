-- Why the sorted items are those of the list.
use Rattle.std.proofs.Common.{◌≡◌, ◌∙◌, sym, ap}
use Rattle.std.specs.List.{list_any}
use Rattle.spec_series.proofs.Searches.{same_items, sorted_alike}
use Rattle.spec_series.proofs.by_part.NDays.new.Goals as goal

pub invariant_of-result : goal.invariant_of-result
invariant_of-result c =
    let copied : c.in_ok-sorted.sorted.items ≡ c.args.items.items = same_items c.args.items.items c.in_ok-sorted.sorted.items c.in_ok-sorted.ensures.cases.0 in (
      λ p. ap (list_any p) (sym copied) ∙ sorted_alike p c.in_ok-sorted.sorted.items c.sort_unstable.new.self.items c.sort_unstable.ensures.permutation,
      (c.sort_unstable.ensures.sorted, tt),
    )
