use Rattle.std.proofs.Common.{◌≤◌, ◌<◌, ◌++◌, ◌∷◌, [], ap, arith, drop, get_or, length, map, sym, take, ◌∙◌, ℕ, List}
use Rattle.std.proofs.lemmas.Grind.{common_steps}
use Rattle.std.proofs.lemmas.List.{map_push}
use Rattle.spec_history.specs.Pages.{Mention}
use Rattle.object_log.proofs.NoteLemmas.{between_more, length-said, mention_at}
use Rattle.object_log.proofs.MentionLemmas.{drop-take_none}
use Rattle.object_log.specs.Pasts.{mention_past}
use Rattle.object_log.specs.Puts.{said}
use Rattle.object_log.proofs.log.ObjectLog.named_between.Goals as goal

pub loop-state-init : goal.loop-state-init
loop-state-init g c = c.new-ids.ensures.items ∙ ap (λ (l : List Mention). map (λ (m : Mention). m.id) l) (sym (drop-take_none c.args.since (said c.args.self.now.told.items)))

pub loop-state-preserved : goal.loop-state-preserved
loop-state-preserved g c =
    let ps = c.args.self.now.told.items in
    let ms = said ps in
    let k = c.args.since in
    let j = c.loop-state.state in
    let w = c.past.result.now in
    let after : k ≤ j = grind (arith, common_steps) in
    let within : j < length ps = grind (arith, common_steps) in
    let inside : j < length ms = omega (arith, within, length-said ps) in
    let at = mention_at ps j w within c.past.ensures in
    let id = λ (m : Mention). m.id in
    c.in_ok-push.ensures.items ∙ ap (λ (l : List ℕ). l ++ w.id ∷ []) c.loop-state.invariant ∙ ap (λ (n : ℕ). map id (drop k (take j ms)) ++ n ∷ []) (ap id at)
    ∙ sym (map_push id (drop k (take j ms)) (get_or ms j (mention_past w))) ∙ ap (map id) (sym (between_more ms k j (mention_past w) after inside))
