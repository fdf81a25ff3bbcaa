-- Why a search in the sorted days tells whether an item has the weekday.
use Rattle.std.proofs.Common.{◌∙◌, ◌==◌, rules, sym}
use Rattle.std.specs.List.{list_any}
use Rattle.std.proofs.lemmas.Cmp.{nat_cmp_total}
use Rattle.std.proofs.lemmas.List.Sorted.{answers_always}
use Rattle.spec_series.proofs.Searches.{by_weekday, found_by, weekday_tied}
use Rattle.spec_series.proofs.by_part.NDays.has_weekday.Goals as goal

pub returns : goal.returns
returns c =
    let items = c.deref.ensures.value in
    let up = by_weekday c.deref.result.now (rw items c.self.inside.rising) in
    let found = found_by nat_cmp_total (λ d. d.day) c.deref.result.now c.args.weekday c.binary_search_by_key.result c.binary_search_by_key.ensures.bound up (c.binary_search_by_key.ensures.position (λ d. d.day) (answers_always _ _ _ (λ f a r g h. search rules))) in
    c.is_ok.ensures.value ∙ rw items at found ∙ (λ i. list_any (λ d. weekday_tied d c.args.weekday i) c.self.inside.sorted.items)
    ∙ rw (← c.self.view_is) (sym (c.self.inside.same (λ d. c.args.weekday == d.day)))
