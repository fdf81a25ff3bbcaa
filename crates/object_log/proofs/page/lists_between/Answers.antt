use Rattle.std.proofs.Common.{◌∙◌, ◌≤◌, ap, arith, filter, get_or, length, refl, ℕ}
use Rattle.std.proofs.lemmas.List.{take_all}
use Rattle.object_log.proofs.GrowthLemmas.{listed_more, listed_all, quiet_new, quiet_changed, quiet_gone}
use Rattle.object_log.specs.Standing.{is_changed, is_gone, is_new, standing}
use Rattle.object_log.specs.Puts.{said}
use Rattle.object_log.proofs.NoteLemmas.{length-said}
use Rattle.object_log.proofs.page.lists_between.Goals as goal

pub loop-id-preserved : goal.loop-id-preserved
loop-id-preserved g c =
    let ms = said c.args.log.now.told.items in
    let k = c.args.since in
    let j = c.args.until in
    let ids = c.deref-id-items.result.now in
    let i = c.loop-id.id-index in
    let id : ℕ = get_or ids i 0 in
    let found = c.in_ok-standings.ensures id in
    let end : j ≤ length ms = omega (arith, c.requires.end, length-said c.args.log.now.told.items) in
    record {
      created = listed_more is_new quiet_new ms k j ids i id _ _ _ c.requires.order end c.loop-id-test.true refl found c.loop-id.invariant.created c.in_ok-add.ensures.created;
      updated = listed_more is_changed quiet_changed ms k j ids i id _ _ _ c.requires.order end c.loop-id-test.true refl found c.loop-id.invariant.updated c.in_ok-add.ensures.updated;
      destroyed = listed_more is_gone quiet_gone ms k j ids i id _ _ _ c.requires.order end c.loop-id-test.true refl found c.loop-id.invariant.destroyed c.in_ok-add.ensures.destroyed;
    }

pub returns-clause-created : goal.returns-clause-created
returns-clause-created g c =
    let ms = said c.args.log.now.told.items in
    let touched = c.deref-id-items.result.now in
    c.loop-id.invariant.created ∙ ap (λ l. filter (λ n. is_new (standing ms c.args.since c.args.until n)) l) (take_all c.loop-id.id-index touched c.loop-id-test.false)
    ∙ listed_all is_new quiet_new ms c.args.since c.args.until touched c.requires.order (c.deref-id-items.ensures.value ∙ c.in_ok-touched.ensures)

pub returns-clause-updated : goal.returns-clause-updated
returns-clause-updated g c =
    let ms = said c.args.log.now.told.items in
    let touched = c.deref-id-items.result.now in
    c.loop-id.invariant.updated ∙ ap (λ l. filter (λ n. is_changed (standing ms c.args.since c.args.until n)) l) (take_all c.loop-id.id-index touched c.loop-id-test.false)
    ∙ listed_all is_changed quiet_changed ms c.args.since c.args.until touched c.requires.order (c.deref-id-items.ensures.value ∙ c.in_ok-touched.ensures)

pub returns-clause-destroyed : goal.returns-clause-destroyed
returns-clause-destroyed g c =
    let ms = said c.args.log.now.told.items in
    let touched = c.deref-id-items.result.now in
    c.loop-id.invariant.destroyed ∙ ap (λ l. filter (λ n. is_gone (standing ms c.args.since c.args.until n)) l) (take_all c.loop-id.id-index touched c.loop-id-test.false)
    ∙ listed_all is_gone quiet_gone ms c.args.since c.args.until touched c.requires.order (c.deref-id-items.ensures.value ∙ c.in_ok-touched.ensures)
