use Rattle.std.proofs.Common.{◌≡◌, ◌∙◌, ℕ, List, Option, ap, subst, sym}
use Rattle.cal_model.specs.Answer.{entries_from}
use Rattle.journal_keeper.specs.Journals.{FailsToKeep, Keeps, Kept, Labelled, labelled}
use Rattle.kept_account.proofs.CallTexts.{still_ok}
use Rattle.kept_account.proofs.Keeping.{by_error, kept_more, kept_same, goes_on_call}
use Rattle.kept_account.specs.HasKept.{HasKept}
use Rattle.spec_history.specs.declared.entry.Entry.{Entry}
use Rattle.kept_account.proofs.account_texts.AccountTextsEntryKeeper.keep.Goals as goal

pub returns-clause-kept : goal.returns-clause-kept
returns-clause-kept g c =
    let es : List Entry = entries_from c.args.stamp.now 0 c.args.changes.now in
    let told = (g.K.Keeper.shown c.args.self.now.keeper).told in
    let told' = (g.K.Keeper.shown c.keep.new.self).told in
    still_ok c.keep.result (λ keeps base h may has.
    let texts = c.in_ok-texts.ensures.texts ∙ ap (λ (id : List ℕ). labelled id es) has.0 in
    (has.0, kept_more base h told told' es (subst (Keeps told told') texts keeps) (c.in_ok-texts.ensures.read_back base.zones h may) has.1)) c.keep.ensures.kept

pub returns-clause-not_kept : goal.returns-clause-not_kept
returns-clause-not_kept g c =
    let es : List Entry = entries_from c.args.stamp.now 0 c.args.changes.now in
    let told = (g.K.Keeper.shown c.args.self.now.keeper).told in
    let told' = (g.K.Keeper.shown c.keep.new.self).told in
    by_error c.keep.result
    (λ failed base h may has.
    let texts = c.in_ok-texts.ensures.texts ∙ ap (λ (id : List ℕ). labelled id es) has.0 in
    (has.0, kept_same base h told told' es (subst (FailsToKeep told told') texts (c.keep.ensures.failed failed)) (c.in_ok-texts.ensures.read_back base.zones h may) (goes_on_call base h c.args.stamp.now c.args.changes.now may.goes_on) has.1))
    (λ wanted base h may has. (has.0, subst (λ (t : Option Kept). HasKept t base h) (sym (c.keep.ensures.no_memory wanted)) has.1))
