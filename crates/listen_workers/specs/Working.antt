-- What a worker does, whatever bytes come on its connections and whatever others do meanwhile.
use Rattle.std.specs.Prelude.{◌≡◌, ℕ, ℤ, ◌*◌, ◌<◌, ◌≤◌, ◌++◌, List, [], ◌∷◌, Option, length, map, option_map}
use Rattle.io_edge.specs.Outside.{Rose, SinkShown, SourceShown}
use Rattle.listen_edge.specs.Listening.{Connection, Connections, ListenerShown, Returned}
use Rattle.listen_edge.specs.declared.job.WorkerDone.{WorkerDone}
use Rattle.listen_edge.specs.declared.job.WorkerEnd.{WorkerEnd}
use Rattle.listen_edge.specs.declared.job.WorkerEnd.TheVariants.{AcceptFault, All, PassSpent}
use Rattle.spec_batch.specs.Chain.{Shown}
use Rattle.spec_connection.specs.Serving.{Serves, Setting}
use Rattle.spec_connection.specs.declared.served.TheConstants.{MAX_MESSAGES}
use Rattle.spec_core.specs.declared.limits.TheConstants.{MAX_CALLS_IN_REQUEST}
use Rattle.spec_history.specs.MostTurns.{most_turns}
use Rattle.spec_site.specs.Configuration.{Site}

-- the most turns of a desk that one connection takes: the calls of its messages, with one that isn't answered
abbrev pub MAX_CALLS : ℕ
MAX_CALLS = MAX_CALLS_IN_REQUEST * MAX_MESSAGES

-- what is shown of what all connections of a worker use
pub record Tools : Type 0 where
  pub clock : Option (ℕ → ℤ)
  pub desk : Shown

-- a connection as it was handed out and as it came back
pub record Visit : Type 0 where
  pub handed : Connection
  pub back : Returned

abbrev pub setting_of : Tools → SourceShown → SinkShown → Setting
setting_of t source sink = record { source = source; sink = sink; clock = t.clock; desk = t.desk }

-- each connection was served, one after the other, and clock and desk went with them from the one state to the other
abbrev pub ServesEach : Site → Tools → Tools → List Visit → Type 0
ServesEach site t u [] = u ≡ t
ServesEach site t u (v ∷ vs) =
    (s : Tools) × Serves site MAX_MESSAGES (setting_of t v.handed.input v.handed.output) (setting_of s v.back.input v.back.output) v.back.served × ServesEach site s u vs

-- these were handed out and came back
abbrev pub with_visits : List Visit → Connections → Connections
with_visits vs c = record { handed = c.handed ++ map (λ v. v.handed) vs; back = c.back ++ map (λ v. v.back) vs }

-- when each end comes, where so many connections were to be served
abbrev pub WorkerHow : ℕ → ListenerShown → ListenerShown → Tools → ℕ → WorkerEnd → Type 0
WorkerHow connections l l' u served All = served ≡ connections
WorkerHow connections l l' u served AcceptFault = (served < connections) × Rose l.faults l'.faults
WorkerHow connections l l' u served PassSpent = (0 < served) × (served ≤ connections) × (u.desk.turns ≡ most_turns)

-- A worker that was to serve so many connections: the listener was asked for them in order and got each back, served as its own bytes ask for. All that was handed out came back.
pub record Works (site : Site) (connections : ℕ) (l l' : ListenerShown) (t u : Tools) (done : WorkerDone) : Type 0 where
  pub visits : List Visit
  pub count : length visits ≡ done.served
  pub told : l'.connections ≡ option_map (with_visits visits) l.connections
  pub serves : ServesEach site t u visits
  pub later : l.faults ≤ l'.faults
  pub how : WorkerHow connections l l' u done.served done.end
