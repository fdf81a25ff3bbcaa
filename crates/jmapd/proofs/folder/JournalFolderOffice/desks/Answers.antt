use Rattle.jmapd_listen.proofs.KeptLemmas.{untold_desks}
use Rattle.jmapd.proofs.folder.JournalFolderOffice.desks.Goals as goal

pub returns-clause-opened : goal.returns-clause-opened
returns-clause-opened g c =
    untold_desks (λ a. a.0) (λ a. a.1) c.args.site.now c.args.workers c.in_ok-accounts.accounts.items c.in_ok-desks.desks.items
    c.in_ok-accounts.ensures.bases c.in_ok-accounts.ensures.go_on c.in_ok-desks.ensures.workers c.in_ok-desks.ensures.fresh
