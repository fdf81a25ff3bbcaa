use Rattle.std.proofs.Common.{◌+◌, ℕ, List, [], ◌∷◌, ap, arith, get_or, length, length-append, refl, take, ◌∙◌}
use Rattle.std.proofs.lemmas.List.{take_all, take_more}
use Rattle.account_core.proofs.Committing.{one_copied}
use Rattle.cal_model.specs.Answer.{entries_from}
use Rattle.spec_history.specs.declared.entry.Change.{Change}
use Rattle.account_core.proofs.trail.copies.Goals as goal

pub loop-change-init : goal.loop-change-init
loop-change-init c = record { part = refl; upto = refl; copied = c.in_ok-entries.ensures.items }

pub overflow_cast-part : goal.overflow_cast-part
overflow_cast-part c = omega (arith, c.loop-change.invariant.part, c.loop-change-test.true, c.requires)

pub overflow_add-part : goal.overflow_add-part
overflow_add-part c = omega (arith, c.loop-change.invariant.part, c.loop-change-test.true, c.requires)

pub loop-change-preserved : goal.loop-change-preserved
loop-change-preserved c =
    let cs : List Change = c.args.changes.now in
    let i : ℕ = c.loop-change.change-index in
    let more = ap length (take_more cs i c.change-item.result c.loop-change-test.true) in
    record {
      part = ap (λ (n : ℕ). n + 1) c.loop-change.invariant.part;
      upto = omega (arith, more, length-append (take i cs) (get_or cs i c.change-item.result ∷ []), c.loop-change.invariant.upto);
      copied = one_copied c.args.stamp.now cs i c.change-item.result c.in_ok-change.change c.loop-change.part c.loop-change.entries.items c.push.new.self.items c.loop-change-test.true c.change-item.is c.loop-change.invariant.upto
          c.loop-change.invariant.part c.in_ok-change.ensures c.loop-change.invariant.copied c.in_ok-push.ensures.items;
    }

pub returns : goal.returns
returns c = c.loop-change.invariant.copied ∙ ap (λ (cs : List Change). entries_from c.args.stamp.now 0 cs) (take_all c.loop-change.change-index c.args.changes.now c.loop-change-test.false)
