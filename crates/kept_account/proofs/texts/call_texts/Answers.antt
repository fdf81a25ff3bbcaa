use Rattle.std.proofs.Common.{◌≡◌, ◌≤◌, ◌<◌, ◌+◌, ◌^◌, ◌++◌, ◌∷◌, ◌∙◌, [], ℕ, List, ap, arith, length, map, refl, subst, sym, take}
use Rattle.std.proofs.lemmas.List.{take_all}
use Rattle.cal_model.specs.Answer.{entries_from, entry_of}
use Rattle.journal_keeper.specs.EntryText.{IsEntryText, IsKeepable, entry_text}
use Rattle.journal_keeper.specs.Journals.{AreEntriesOf, AreKeepable, Labelled, labelled}
use Rattle.kept_account.proofs.CallTexts.{back_step, texts_step, upto_step}
use Rattle.spec_history.specs.declared.entry.Change.{Change}
use Rattle.kept_account.proofs.texts.call_texts.Goals as goal

pub loop-change-init : goal.loop-change-init
loop-change-init c = record { part = refl; upto = refl; texts = c.in_ok-texts.ensures.items; back = λ k. tt }

pub overflow_cast-part : goal.overflow_cast-part
overflow_cast-part c = omega (arith, c.loop-change.invariant.part, c.loop-change-test.true, c.requires.parts)

pub overflow_add-part : goal.overflow_add-part
overflow_add-part c = omega (arith, c.loop-change.invariant.part, c.loop-change-test.true, c.requires.parts)

pub loop-change-preserved : goal.loop-change-preserved
loop-change-preserved c =
    let stamp = c.args.stamp.now in
    let cs : List Change = c.args.changes.now in
    let i : ℕ = c.loop-change.change-index in
    let change : Change = c.change-item.result in
    let part : c.loop-change.part ≡ i = c.loop-change.invariant.part in
    let text : c.in_ok-text.text.items ≡ entry_text (entry_of stamp i change) = c.in_ok-text.ensures.text ∙ ap (λ (n : ℕ). entry_text (entry_of stamp n change)) part in
    let labelled_is : c.new.result ≡ (c.args.account.now, c.in_ok-text.text.items) = c.new.ensures ∙ ap (λ (a : List ℕ). (a, c.in_ok-text.text.items)) c.in_ok-copy.ensures in
    let one : IsKeepable (entry_of stamp i change) → IsEntryText (entry_of stamp i change) (entry_text (entry_of stamp i change)) = λ keepable.
    subst (IsEntryText (entry_of stamp i change)) text
    (subst (λ (n : ℕ). IsKeepable (entry_of stamp n change) → IsEntryText (entry_of stamp n change) c.in_ok-text.text.items) part c.in_ok-text.ensures.reads_back keepable) in
    record {
      part = ap (λ (n : ℕ). n + 1) part;
      upto = upto_step cs i change c.loop-change-test.true c.loop-change.invariant.upto;
      texts = texts_step c.args.account.now stamp cs i change c.loop-change.texts.items c.push.new.self.items c.in_ok-text.text.items c.loop-change-test.true c.change-item.is c.loop-change.invariant.upto c.loop-change.invariant.texts
          (c.in_ok-push.ensures.items ∙ ap (λ (t : Labelled). c.loop-change.texts.items ++ t ∷ []) labelled_is) text;
      back = back_step stamp cs i change c.loop-change-test.true c.change-item.is c.loop-change.invariant.upto c.loop-change.invariant.back one;
    }

pub returns-clause-texts : goal.returns-clause-texts
returns-clause-texts c =
    c.loop-change.invariant.texts ∙ ap (λ (cs : List Change). labelled c.args.account.now (entries_from c.args.stamp.now 0 cs)) (take_all c.loop-change.change-index c.args.changes.now c.loop-change-test.false)

pub returns-clause-read_back : goal.returns-clause-read_back
returns-clause-read_back c =
    subst (λ (cs : List Change). AreKeepable (entries_from c.args.stamp.now 0 cs) → AreEntriesOf (entries_from c.args.stamp.now 0 cs) (map entry_text (entries_from c.args.stamp.now 0 cs)))
    (take_all c.loop-change.change-index c.args.changes.now c.loop-change-test.false) c.loop-change.invariant.back
