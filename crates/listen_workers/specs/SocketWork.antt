-- What a worker of sockets does, whatever comes on them and whatever others do meanwhile.
use Rattle.std.specs.Prelude.{◌≡◌, ◌<◌, ℕ}
use Rattle.listen_edge.specs.declared.job.WorkerDone.{WorkerDone}
use Rattle.listen_edge.specs.declared.job.WorkerEnd.{WorkerEnd}
use Rattle.listen_edge.specs.declared.job.WorkerEnd.TheVariants.{AcceptFault, All, PassSpent}
use Rattle.listen_workers.specs.Working.{Tools}
use Rattle.spec_site.specs.Configuration.{Site}
use Rattle.ws_edge.specs.Accepting.{AcceptShown}
use Rattle.ws_serve.specs.Hosting.{HostsSockets, SocketTools}
use Rattle.ws_serve.specs.declared.host.HostEnd.TheVariants as end

abbrev pub socket_tools : Tools → SocketTools
socket_tools t = record { clock = t.clock; desk = t.desk }

-- when each end comes, where so many handshakes were to be looked at
abbrev pub SocketWorkHow : ℕ → ℕ → WorkerEnd → Type 0
SocketWorkHow handshakes looked All = looked ≡ handshakes
SocketWorkHow handshakes looked AcceptFault = looked < handshakes
SocketWorkHow handshakes looked PassSpent = ⊥

-- A worker that was to look at so many handshakes looked at as many as it says. Of these the sockets came, in order, and each was handed back before the next came, served as its own
-- texts ask for. All that was handed out came back.
pub record WorksOnSockets (site : Site) (handshakes : ℕ) (a a' : AcceptShown) (t u : Tools) (done : WorkerDone) : Type 0 where
  pub hosts : HostsSockets site done.served a a' (socket_tools t) (socket_tools u) end.All
  pub how : SocketWorkHow handshakes done.served done.end
