use Rattle.kept_run.proofs.StartLemmas.{count_opened}
use Rattle.slot_run.proofs.RunLemmas.{all_open, looked, no_accounts}
use Rattle.slot_run.proofs.run.run_slot.Goals as goal

pub answer_input-requires : goal.answer_input-requires
answer_input-requires g c = rw (c.deref.ensures.value) (all_open _ _ _ (count_opened _ _ _ c.in-Ok-open_accounts.ensures.opened) c.user.ensures.granted)

pub returns-in-Ok-open_accounts-clause-runs : goal.returns-in-Ok-open_accounts-clause-runs
returns-in-Ok-open_accounts-clause-runs g c =
    let opened = c.in-Ok-open_accounts.ensures in
    looked _ _ _ _ c.in-Ok.site c.in-Ok.ensures.how (g.J.Keeper.shown c.open_accounts.new.keeper) opened.loads c.in-Some.user c.in-Some.ensures.user
    c.in-Ok-open_accounts.accounts.items opened.opened opened.undamaged (g.S.Source.shown c.answer_input.new.input) (g.K.Sink.shown c.answer_input.new.output) c.answer_input.result
    (rw (c.user.ensures.value, c.deref.ensures.value) at c.answer_input.ensures)

pub returns-clause-runs : goal.returns-clause-runs
returns-clause-runs g c =
    let refused = c.in-Err-open_accounts.ensures in
    no_accounts _ _ _ _ c.in-Ok.site c.in-Ok.ensures.how (g.J.Keeper.shown c.open_accounts.new.keeper) refused.loads c.in-Err-open_accounts.status refused.refused
