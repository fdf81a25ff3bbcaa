-- Why a search in the sorted numbers tells whether there is the item.
use Rattle.std.proofs.Common.{◌∙◌, FitsSigned, sym, w32}
use Rattle.std.specs.Ordering.{int_eq}
use Rattle.std.proofs.lemmas.Int.{to_z-of_z}
use Rattle.std.proofs.lemmas.Cmp.{int_cmp_total}
use Rattle.spec_series.proofs.Searches.{found_by}
use Rattle.spec_series.proofs.by_part.Small.contains.Goals as goal

pub returns : goal.returns
returns c =
    let f : FitsSigned w32 c.args.number = c.ranges.number in
    let position = simp to_z-of_z at c.binary_search.ensures.position in
    let items = c.deref.ensures.value in
    let found = found_by int_cmp_total (λ k. k) c.deref.result.now c.args.number c.binary_search.result c.binary_search.ensures.bound (rw items c.self.inside.rising) position in
    c.is_ok.ensures.value ∙ rw items at found ∙ rw (← c.self.view_is) (sym (c.self.inside.same (λ k. int_eq k c.args.number)))
