use Rattle.std.proofs.Common.{◌∙◌, ℕ, refl, sym, ap, subst}
use Rattle.spec_batch.specs.Meaning.{refuses, echoes}
use Rattle.batch_exec.specs.Judgements.{account_is_below, created_with, meaning_in}
use Rattle.batch_exec.proofs.Responding.{responds_itself, responds_from_account}
use Rattle.batch_exec.proofs.batch.respond.Goals as goal

pub returns-in-Ok : goal.returns-in-Ok
returns-in-Ok g c =
    let a = c.args in
    let j = c.in-Ok-Refused in
    responds_itself a.user.now.grants a.capabilities.now a.moment a.responses.now a.created.now c.judge.new.created a.invocation a.fronts.now.items
    (g.D.Desk.shown a.desk.now) (refuses j.error) c.in-Ok.response (sym (ap meaning_in j.field-0-is) ∙ j.ensures.meaning)
    (sym (ap (λ k. created_with k c.judge.new.created) j.field-0-is) ∙ j.ensures.created) (refl, c.in-Ok.ensures)

pub returns-in-Ok-Echo : goal.returns-in-Ok-Echo
returns-in-Ok-Echo g c =
    let a = c.args in
    let j = c.in-Ok-Echo in
    responds_itself a.user.now.grants a.capabilities.now a.moment a.responses.now a.created.now c.judge.new.created a.invocation a.fronts.now.items
    (g.D.Desk.shown a.desk.now) (echoes j.arguments) _ (sym (ap meaning_in j.field-0-is) ∙ j.ensures.meaning)
    (sym (ap (λ k. created_with k c.judge.new.created) j.field-0-is) ∙ j.ensures.created) (refl, refl)

pub respond_from_account-requires : goal.respond_from_account-requires
respond_from_account-requires g c =
    let accounts : ℕ = (g.D.Desk.shown c.args.desk.now).accounts in
    let j = c.in-Ok-Call in
    subst (account_is_below accounts) j.field-0-is (j.ensures.account accounts c.requires.accounts)

pub returns-in-Ok-Call : goal.returns-in-Ok-Call
returns-in-Ok-Call g c =
    let a = c.args in
    let j = c.in-Ok-Call in
    responds_from_account a.user.now.grants a.capabilities.now a.moment a.responses.now a.created.now c.respond_from_account.new.created a.invocation
    a.fronts.now.items c.respond_from_account.new.fronts.items (g.D.Desk.shown a.desk.now) (g.D.Desk.shown c.respond_from_account.new.desk) j.account j.call
    c.respond_from_account.result (sym (ap meaning_in j.field-0-is) ∙ j.ensures.meaning)
    (sym (ap (λ k. created_with k c.judge.new.created) j.field-0-is) ∙ j.ensures.created) c.respond_from_account.ensures
