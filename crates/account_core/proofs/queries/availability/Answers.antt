use Rattle.std.proofs.Common.{◌≡◌, MatchOption, None, Some, [], subst, subst₂, sym, ap, ◌∙◌}
use Rattle.account_core.specs.Ledger.{base, ledger_entries}
use Rattle.account_store.specs.Store.{entries}
use Rattle.event_store.specs.EventsBase.{base_of}
use Rattle.cal_model.specs.Answer.{answered, unless_error}
use Rattle.spec_availability.specs.Availability.{availability_refusal, availability_response}
use Rattle.spec_calls.specs.declared.call.MethodError.TheVariants.{InvalidArguments}
use Rattle.spec_history.specs.History.{changes_of}
use Rattle.account_core.proofs.queries.availability.Goals as goal

pub returns-in-Some : goal.returns-in-Some
returns-in-Some c =
    let l = c.args.ledger.now in
    let q = c.args.arguments.now in
    let h = ledger_entries l in
    let events = c.events.result in
    let lent = base_of events in
    let refusal = availability_refusal lent q in
    let response = availability_response lent (changes_of (entries events.store.now)) q in
    let found = subst (λ r. MatchOption r (refusal ≡ Some InvalidArguments) (λ t. (refusal ≡ None) × (t ≡ response))) c.in-Some.is c.in_ok-periods.ensures in
    let told = subst₂ (λ b s. (availability_refusal b q ≡ None) × (c.in-Some.periods ≡ availability_response b (changes_of (entries s)) q))
    c.events.ensures.base c.events.ensures.store found in
    c.reply.ensures ∙ ap (answered h c.in-Some.periods) (c.new-in-Some.ensures ∙ c.new.ensures.items) ∙ ap (λ t. answered h t []) told.1
    ∙ ap (λ e. unless_error h e (answered h (availability_response (base l) (changes_of h) q) [])) (sym told.0)
