use Rattle.account_desk.proofs.FreshLemmas.{shown_fresh, sole_fresh}
use Rattle.account_desk.proofs.sole_desk.SoleDesk.open.Goals as goal

pub invariant_of-result : goal.invariant_of-result
invariant_of-result c = sole_fresh c.args.site.now c.in_ok-fresh_accounts.field-0.items c.in_ok-fresh_accounts.ensures.fresh c.in_ok-fresh_accounts.ensures.few

pub returns : goal.returns
returns c = shown_fresh c.args.site.now c.in_ok-fresh_accounts.field-0.items c.in_ok-fresh_accounts.ensures.fresh
