-- Why a search in the sorted days tells whether there is the item.
use Rattle.std.proofs.Common.{◌∙◌, ◌==◌, ◌&&◌, sym}
use Rattle.std.specs.List.{list_any}
use Rattle.std.specs.Option.{option_eq}
use Rattle.std.specs.Ordering.{int_eq}
use Rattle.spec_series.proofs.Searches.{found_by, nday_tied, ndays_total}
use Rattle.spec_series.proofs.by_part.NDays.contains.Goals as goal

pub returns : goal.returns
returns c =
    let items = c.deref.ensures.value in
    let found = found_by ndays_total (λ d. d) c.deref.result.now c.args.day c.binary_search.result c.binary_search.ensures.bound (rw items c.self.inside.rising) c.binary_search.ensures.position in
    c.is_ok.ensures.value ∙ rw items at found ∙ (λ i. list_any (λ d. nday_tied d c.args.day i) c.self.inside.sorted.items)
    ∙ rw (← c.self.view_is) (sym (c.self.inside.same (λ d. (c.args.day.day == d.day) && option_eq int_eq d.nth c.args.day.nth)))
