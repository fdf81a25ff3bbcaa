use Rattle.std.proofs.Common.{refl, sym, subst, ℕ, List, Option}
use Rattle.std.specs.Prelude.{option_map}
use Rattle.std.specs.Borrow.{Bor}
use Rattle.jmapd_run.proofs.Starting.{site_is}
use Rattle.jmapd_run.specs.Starts.{IsUser}
use Rattle.jmapd_run.proofs.start.start_batch.Goals as goal

pub returns-in-None-clause-how : goal.returns-in-None-clause-how
returns-in-None-clause-how g c =
    let first = subst (λ (user : Option (Bor (List ℕ))). IsUser c.in_ok-site.site (option_map (λ name. name.now) user) 0) (sym c.in-None.is) refl in
    (c.in_ok-site.site, 0, refl, site_is _ _ _ c.in_ok-site.site c.in_ok-site.ensures.how, first)
