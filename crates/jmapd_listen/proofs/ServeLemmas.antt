-- What comes of the workers of a site.
use Rattle.std.proofs.Common.{◌≡◌, ℕ, ◌*◌, true, false, List, length, sym, ap, ◌∙◌, arith}
use Rattle.std.proofs.lemmas.List.{length-map}
use Rattle.std.specs.List.{list_all}
use mathlib.Core.Logic.{inr}
use Rattle.command_line.specs.Commands.{Listen, all_workers, socket_workers}
use Rattle.jmapd_listen.proofs.EndedLemmas.{all_whole, one_failed}
use Rattle.jmapd_listen.specs.Hosts.{AskedForAll, HostsShown, serving_sockets}
use Rattle.jmapd_listen.specs.Listens.{HaveEnded, ServesSite, SpawnerShown}
use Rattle.jmapd_run.specs.declared.status.Status.TheVariants.{Done, NoMemory, OpenFault}
use Rattle.listen_edge.specs.Ending.{counted}
use Rattle.listen_workers.specs.Crew.{is_all}
use Rattle.listen_workers.specs.Posts.{EndedWorker}
use Rattle.spec_batch.specs.Chain.{Shown}
use Rattle.spec_site.specs.Configuration.{Site}

-- each worker has its post
module _ (site : Site) (desks : List Shown) (l : Listen) (h h' : HostsShown) (asked : AskedForAll l h h') where
  -- memory ran out before a worker was started
  pub wanting : (s s' : SpawnerShown) → s' ≡ s → ServesSite site desks l h h' s s' NoMemory
  wanting s s' same = (inr (asked.0, (socket_workers l.sockets, omega arith, asked.1)), same)

  -- the workers ended
  module _ (s s' : SpawnerShown) (many : length desks ≡ all_workers l) (workers : List (EndedWorker site l.connections)) (ended : HaveEnded desks (serving_sockets l) s s' workers) where
    count : length workers ≡ all_workers l
    count = sym (length-map workers (λ (w : EndedWorker site l.connections). w.tools.desk)) ∙ (ap length ended.began ∙ many)

    pub all_served : list_all (λ (w : EndedWorker site l.connections). is_all w.done.end) workers ≡ true → ServesSite site desks l h h' s s' Done
    all_served whole =
        let t = all_whole (λ (w : EndedWorker site l.connections). w.done) l.connections workers ended.ends whole in
        (asked, ended.faults ∙ ap (counted s.faults) t.0, ended.served ∙ ap (counted s.served) (t.1 ∙ ap (λ (n : ℕ). n * l.connections) count), (workers, ended))

    pub not_all : list_all (λ (w : EndedWorker site l.connections). is_all w.done.end) workers ≡ false → ServesSite site desks l h h' s s' OpenFault
    not_all failed =
        let some = one_failed (λ (w : EndedWorker site l.connections). w.done) l.connections workers ended.ends failed in
        let faults = ended.faults in
        inr (asked, omega (arith, some, faults), (workers, ended))
