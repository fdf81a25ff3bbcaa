use Rattle.std.proofs.Common.{◌++◌, ◌∙◌, ap, append-nil, sym}
use Rattle.std.proofs.lemmas.List.{append_cancel_left}
use Rattle.account_core.specs.Ledger.{history, staged}
use Rattle.spec_history.specs.History.{changes_of}
use Rattle.account_core.proofs.set.prepare.Goals as goal

pub plan-requires-clause-staged : goal.plan-requires-clause-staged
plan-requires-clause-staged c =
    let cs = history c.args.ledger.now in
    ap (λ ds. cs ++ ds) c.requires ∙ append-nil cs

-- the entries are those of before, so what is staged is what the set adds to them
pub returns-clause-staged : goal.returns-clause-staged
returns-clause-staged c =
    let l = c.args.ledger.now in
    let view = c.plan.new.view in
    let same = ap changes_of c.in_ok-plan.ensures.entries in
    c.in_ok-reserve.ensures.ok ∙ append_cancel_left (history l) (staged view) _ (ap (λ cs. cs ++ staged view) (sym same) ∙ c.in_ok-plan.ensures.changes)
