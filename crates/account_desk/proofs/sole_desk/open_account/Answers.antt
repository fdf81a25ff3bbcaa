use Rattle.std.proofs.Common.{◌≡◌, List, ◌∙◌, IfOk, subst}
use Rattle.spec_history.specs.Base.{Base}
use Rattle.spec_history.specs.declared.entry.Entry.{Entry}
use Rattle.account_desk.proofs.FreshLemmas.{fresh_is}
use Rattle.account_desk.proofs.sole_desk.open_account.Goals as goal

pub returns : goal.returns
returns c =
    let is = fresh_is c.args.site.now c.args.n c.in_ok-id.id c.in_ok-try_clone.field-0.value c.requires (λ d. c.in_ok-id.ensures ∙ c.account_id.ensures d)
    (c.in_ok-try_clone.ensures ∙ c.zones.ensures) in
    subst (λ (a : Base × List Entry). IfOk c.open-2.result (λ x. x ≡ a)) is (rw c.generation.ensures at c.open-2.ensures)
