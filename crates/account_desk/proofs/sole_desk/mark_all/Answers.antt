use Rattle.std.proofs.Common.{ap, set, ◌∙◌}
use Rattle.std.proofs.lemmas.List.{set-get_or}
use Rattle.account_desk.proofs.sole_desk.mark_all.Goals as goal

pub loop-account-preserved : goal.loop-account-preserved
loop-account-preserved c =
    let accounts = c.loop-account.account-items in
    let n = c.loop-account.account-index in
    ap (set accounts n) c.mark.ensures ∙ set-get_or accounts n c.account-item.result ∙ c.loop-account.invariant
