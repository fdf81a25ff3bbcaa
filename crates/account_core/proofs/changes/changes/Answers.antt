use Rattle.std.proofs.Common.{ap, is_ok, subst, sym, ◌∙◌}
use Rattle.std.proofs.lemmas.Bool.{false≢true}
use Rattle.account_core.proofs.Pages.{changes_told}
use Rattle.account_core.specs.Ledger.{base}
use Rattle.account_store.specs.Store.{entries}
use Rattle.spec_history.specs.History.{changes_of}
use Rattle.spec_history.specs.Pages.{mentions}
use Rattle.object_log.specs.IsPage.{IsPage}
use Rattle.time_text.specs.State.{number_named}
use Rattle.account_core.proofs.changes.changes.Goals as goal

pub returns : goal.returns
returns c =
    let page = subst (λ most. IsPage (mentions c.args.arguments.now.kind (changes_of (entries c.args.ledger.now.store))) c.in-Some.number most c.in-Ok.page) c.limit.ensures c.in-Ok.ensures.ok in
    c.reply.ensures ∙ rw (c.in_ok-arguments.ensures, c.new-2.ensures, c.new.ensures.items)
    (changes_told (base c.args.ledger.now) (entries c.args.ledger.now.store) c.args.arguments.now c.in-Some.number c.in-Ok.page
    (sym c.is_maximum.ensures ∙ c.if-not-is_maximum.false) (ap (number_named c.args.ledger.now.generation) (sym (c.as_bytes.ensures.value ∙ c.as_str.ensures)) ∙ sym c.number_named.ensures ∙ c.in-Some.is)
    (λ e. false≢true (sym (ap is_ok (c.in-Ok.ensures.not_retained.1 e)))) page)
