-- What a host is asked for.
use Rattle.std.specs.Prelude.{◌≡◌, ◌<◌, ◌≤◌, ◌+◌, ◌++◌, zero, suc, ℕ, List, [], ◌∷◌, Result, Ok, Err, option_map}
use Rattle.io_edge.specs.Outside.{Rose}
use Rattle.listen_edge.specs.Listening.{HostShown}
use Rattle.listen_edge.specs.declared.host.HostError.{HostError}
use Rattle.listen_edge.specs.declared.host.HostError.TheVariants.{Failed, NoMemory}

-- the port with each worker from 0 on, so many
abbrev pub workers_of : ℕ → ℕ → List (ℕ × ℕ)
workers_of port zero = []
workers_of port (suc n) = workers_of port n ++ (port, n) ∷ []

-- where a host tells what it was asked for, it was asked for listeners of the port for so many workers, from 0 on and in order, and for nothing else
abbrev pub AskedFor : HostShown → HostShown → ℕ → ℕ → Type 0
AskedFor h h' port n = h'.asked ≡ option_map (λ pairs. pairs ++ workers_of port n) h.asked

-- each worker has a listener; or the host failed to make one, and wasn't asked for another; or memory ran out
abbrev pub OpensHow : {L : Type 0} → ℕ → ℕ → HostShown → HostShown → Result L HostError → Type 0
OpensHow port workers h h' (Ok listeners) = AskedFor h h' port workers
OpensHow port workers h h' (Err Failed) = ((n : ℕ) × (n < workers) × AskedFor h h' port (n + 1)) × Rose h.faults h'.faults
OpensHow port workers h h' (Err NoMemory) = (n : ℕ) × (n ≤ workers) × AskedFor h h' port n
