use Rattle.std.proofs.Common.{map, subst}
use Rattle.std.proofs.lemmas.List.{map-id}
use Rattle.std.proofs.lemmas.Result.{IfOk-weaker}
use Rattle.std.specs.Prelude.{All}
use Rattle.account_desk.specs.FreshDesk.{account_rules}
use Rattle.account_desk.specs.SharedDesk.{shown_by_passes}
use Rattle.jmapd_listen.proofs.JobLemmas.{all_unused}
use Rattle.jmapd_listen.specs.Listens.{IsUnused}
use Rattle.listen_workers.specs.Passes.{ShareAccounts}
use Rattle.listen_rows.proofs.sites.gated_desks.Goals as goal

pub returns-clause-unused : goal.returns-clause-unused
returns-clause-unused g c =
    let site = c.args.site.now in
    let accounts = c.in_ok-gated_accounts.field-0.items in
    IfOk-weaker c.open_desks.result (λ desks. ShareAccounts (map (λ a. a) accounts) desks.items) (λ desks. All (λ desk. IsUnused site (shown_by_passes account_rules desk)) desks.items)
    (λ desks share. all_unused site accounts desks.items c.in_ok-gated_accounts.ensures.fresh (subst (λ these. ShareAccounts these desks.items) (map-id accounts) share)) c.open_desks.ensures.fresh
