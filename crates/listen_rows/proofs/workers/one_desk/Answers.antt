use Rattle.std.proofs.Common.{arith, map, subst, sym}
use Rattle.std.proofs.lemmas.List.{map-id}
use Rattle.account_desk.specs.FreshDesk.{account_rules}
use Rattle.account_desk.specs.SharedDesk.{shown_by_passes}
use Rattle.jmapd_listen.proofs.JobLemmas.{all_unused}
use Rattle.jmapd_listen.specs.Listens.{IsUnused}
use Rattle.listen_workers.specs.Passes.{ShareAccounts}
use Rattle.listen_rows.proofs.workers.one_desk.Goals as goal

pub returns : goal.returns
returns g c =
    let site = c.args.site.now in
    let accounts = c.in_ok-fresh_accounts.field-0.items in
    let desks = c.in_ok-desks.desks.items in
    let share = subst (λ these. ShareAccounts these desks) (map-id accounts) c.in_ok-desks.ensures.fresh in
    let all = all_unused site accounts desks c.in_ok-fresh_accounts.ensures.fresh share in
    subst (λ desk. IsUnused site (shown_by_passes account_rules desk)) (sym c.remove.ensures.value) (all 0 c.remove.result (omega (arith, c.in_ok-desks.ensures.workers)))
