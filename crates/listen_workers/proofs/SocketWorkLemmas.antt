-- The ends of a worker of sockets.
use Rattle.std.proofs.Common.{◌≡◌, ℕ, ◌<◌, ◌≤◌, refl, arith}
use Rattle.listen_edge.specs.declared.job.WorkerEnd.TheVariants.{AcceptFault, All}
use Rattle.listen_workers.specs.SocketWork.{WorksOnSockets, socket_tools}
use Rattle.listen_workers.specs.Working.{Tools}
use Rattle.spec_site.specs.Configuration.{Site}
use Rattle.ws_edge.specs.Accepting.{AcceptShown}
use Rattle.ws_serve.proofs.HostLemmas.{Hosting, hosts_all, hosts_stopped}
use Rattle.ws_serve.specs.declared.host.HostEnd.TheVariants as end

module _ {site : Site} {a a0 : AcceptShown} {t u : Tools} {n handshakes : ℕ} (h : Hosting site a a0 (socket_tools t) (socket_tools u) n) where
  -- all handshakes were looked at
  pub looked_all : n ≤ handshakes → handshakes ≤ n → WorksOnSockets site handshakes a a0 t u (record { served = handshakes; end = All })
  looked_all within all = record { hosts = hosts_all h within all; how = refl }

  -- there is no further one
  pub looked_some : {a1 : AcceptShown} → n < handshakes → a1.sockets ≡ a0.sockets → a1.ports ≡ a0.ports → a0.faults ≤ a1.faults → a1.asked ≡ a0.asked
      → WorksOnSockets site handshakes a a1 t u (record { served = n; end = AcceptFault })
  looked_some few same ports later asked = record {
    hosts = hosts_stopped h end.All (omega arith) same ports later (let before = h.asked in omega (arith, before, asked));
    how = few;
  }
