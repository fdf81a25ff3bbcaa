-- Why a search in the sorted recurrence ids tells whether an exception names the wall second.
use Rattle.std.proofs.Common.{◌∙◌, FitsSigned, w64}
use Rattle.std.specs.Ordering.{int_eq}
use Rattle.std.proofs.lemmas.Int.{to_z-of_z}
use Rattle.std.proofs.lemmas.Cmp.{int_cmp_total}
use Rattle.spec_series.proofs.Searches.{found_by}
use Rattle.spec_series.specs.SeriesLimits.{is_named}
use Rattle.spec_series.proofs.sorted_exceptions.SortedExceptions.names.Goals as goal

pub returns : goal.returns
unfolding is_named
returns c =
    let f : FitsSigned w64 c.args.wall = c.ranges.wall in
    let position = simp to_z-of_z at c.binary_search.ensures.position in
    let items = c.deref.ensures.value in
    let found = found_by int_cmp_total (λ k. k) c.deref.result.now c.args.wall c.binary_search.result c.binary_search.ensures.bound (rw items c.self.inside.rising) position in
    c.is_ok.ensures.value ∙ rw items at found ∙ rw (← c.self.view_is) (c.self.inside.named (λ k. int_eq k c.args.wall))
