use Rattle.std.proofs.Common.{Err, ap, ◌∙◌}
use Rattle.std.proofs.lemmas.Result.{IfOk-weaker}
use Rattle.account_core.proofs.KeptLemmas.{unkept_came}
use Rattle.account_core.specs.Ledger.{ledger_entries, staged}
use Rattle.cal_model.specs.Answer.{unkept_answer}
use Rattle.account_core.proofs.set.keep_and_commit.Goals as goal

pub returns-in-Err-clause-came : goal.returns-in-Err-clause-came
returns-in-Err-clause-came g c =
    let same = c.forget.ensures.entries in
    IfOk-weaker c.not_kept.result _ _
    (λ r told. unkept_came g.K.EntryKeeper.unkept (ledger_entries c.args.ledger.now) (staged c.args.ledger.now) c.args.stamp.now c.args.reply r (ledger_entries c.forget.new.self)
    (c.keep.ensures.told (c.in-Err.is ∙ ap Err told.0)) (told.1 ∙ ap unkept_answer same) same)
    c.not_kept.ensures
