use Rattle.std.proofs.Common.{ap, refl, ◌∙◌}
use Rattle.std.specs.Prelude.{string_bytes}
use denote.Param.Send.{sendable}
use Rattle.account_desk.proofs.Crossing.{account_sent}
use Rattle.account_desk.specs.SoleDesk.{fresh_account}
use Rattle.spec_site.specs.Configuration.{Site}
use Rattle.jmapd_run.proofs.AccountPages.{pages_lead, text_is}
use Rattle.jmapd_run.proofs.work.text_of.Goals as goal

pub work-requires-send-B : goal.work-requires-send-B
work-requires-send-B c κs = search (account_sent, sendable) depth 60 fits 20000

pub work-requires-after_bounds : goal.work-requires-after_bounds
work-requires-after_bounds c κs = (pages_lead, refl)

pub returns : goal.returns
returns c =
    let fresh = c.in_ok-account.ensures ∙ ap (λ (site : Site). fresh_account site 0) c.in_ok-site.ensures in
    text_is string_bytes c.lines.result c.in_ok-account.account c.args.asked.number c.args.asked.size c.in_ok-numbers.numbers fresh c.in_ok-numbers.ensures c.lines.ensures
