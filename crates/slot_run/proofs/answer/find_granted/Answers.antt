use Rattle.std.proofs.Common.{◌∙◌, [], Option, ap}
use Rattle.std.proofs.lemmas.List.{get_or_read}
use Rattle.std.specs.Prelude.{ok_or}
use Rattle.slot_request.specs.Shown.{request_shown}
use Rattle.slot_run.proofs.AnswerLemmas.{granted_slot}
use Rattle.slot_run.specs.declared.refusal.Refusal.TheVariants.{CalendarNotFound}
use Rattle.spec_history.specs.Base.{no_base}
use Rattle.spec_slots.specs.declared.slot.FoundSlot.{FoundSlot}
use Rattle.slot_run.proofs.answer.find_granted.Goals as goal

pub returns-in-Some-2-clause-found : goal.returns-in-Some-2-clause-found
returns-in-Some-2-clause-found c =
    let there = rw c.in-Some.is at c.requires in
    rw c.in-Some.is
    (granted_slot c.args.accounts.now (request_shown c.args.asked.now) c.in-Some.grant.now c.index-accounts-grant.result c.in_ok-found.field-0
    (get_or_read c.args.accounts.now c.in-Some.grant.now.account c.index-accounts-grant.result there c.index-accounts-grant.is (no_base, [])) c.in_ok-found.ensures.found
    ∙ ap (λ (o : Option FoundSlot). ok_or o CalendarNotFound) c.in-Some-2.is)

pub returns-in-None-clause-refused : goal.returns-in-None-clause-refused
returns-in-None-clause-refused c =
    let there = rw c.in-Some.is at c.requires in
    rw c.in-Some.is
    (granted_slot c.args.accounts.now (request_shown c.args.asked.now) c.in-Some.grant.now c.index-accounts-grant.result c.in_ok-found.field-0
    (get_or_read c.args.accounts.now c.in-Some.grant.now.account c.index-accounts-grant.result there c.index-accounts-grant.is (no_base, [])) c.in_ok-found.ensures.found
    ∙ ap (λ (o : Option FoundSlot). ok_or o CalendarNotFound) c.in-None.is)
