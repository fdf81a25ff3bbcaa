use Rattle.std.proofs.Common.{◌≡◌, arith, map, ap, ◌∙◌}
use Rattle.std.proofs.lemmas.Grind.{common_steps}
use Rattle.set_methods.proofs.AskedLemmas.{insert_notes}
use Rattle.cal_model.specs.CreatedIds.{with_text}
use Rattle.set_methods.proofs.asked_ids.asked_ids.Goals as goal

pub loop-id-preserved : goal.loop-id-preserved
loop-id-preserved c =
    let noted : map (λ t. t.now) c.insert.new.self.keys ≡ with_text (map (λ t. t.now) c.loop-id.asked.keys) c.as_str.result.now = ap (λ ts. map (λ t. t.now) ts) c.in_ok-insert.ensures.keys ∙ insert_notes c.as_str.result c.loop-id.asked.keys in
    grind (arith, common_steps, noted, c.as_str.ensures, c.loop-id.invariant)
