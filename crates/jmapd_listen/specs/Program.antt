-- What the program does for its words, whatever bytes come: the main theorem's statement for all its commands.
use Rattle.std.specs.Prelude.{◌≡◌, ◌⊎◌, ℕ, List}
use Rattle.command_line.specs.Commands.{command_of}
use Rattle.io_edge.specs.Outside.{OpenerShown}
use Rattle.jmapd_run.specs.Headline.{Surroundings}
use Rattle.jmapd_run.specs.Runs.{RunsFrom}
use Rattle.jmapd_run.specs.Starts.{IsStart, Start, batch_for, misconfigured, not_opened, stdio_of, usage, workers_for, workload_by}
use Rattle.jmapd_run.specs.declared.status.Status.{Status}
use Rattle.jmapd_run.specs.declared.status.Status.TheVariants.{NoMemory}
use Rattle.jmapd_listen.specs.Hosts.{HostsShown}
use Rattle.jmapd_listen.specs.Listens.{ServesTogether, SpawnerShown}

-- what is shown of input, output and clock, of the hosts and of the spawner, before and after
module _ (x x' : Surroundings) (h h' : HostsShown) (s s' : SpawnerShown) where
  -- the streams' part of a run, which asks nothing of hosts and spawner
  abbrev pub RunsStreams : Start → Status → Type 0
  RunsStreams start status = RunsFrom x x' start status × (h' ≡ h) × (s' ≡ s)

  -- What comes of a start, and with which status. Workers touch neither input nor output.
  abbrev pub WorksFrom : Start → Status → Type 0
  WorksFrom usage status = RunsStreams usage status
  WorksFrom not_opened status = RunsStreams not_opened status
  WorksFrom (misconfigured field index) status = RunsStreams (misconfigured field index) status
  WorksFrom (batch_for site user) status = RunsStreams (batch_for site user) status
  WorksFrom (stdio_of site) status = RunsStreams (stdio_of site) status
  WorksFrom (workload_by number size) status = RunsStreams (workload_by number size) status
  WorksFrom (workers_for l site) status = ServesTogether site l h h' s s' status × (x' ≡ x)

  -- The words and the opener come to a start, and from there the program goes on; or memory ran out before anything else was touched.
  abbrev pub RunsProgram : OpenerShown → OpenerShown → List (List ℕ) → Status → Type 0
  RunsProgram o o' words status = ((start : Start) × IsStart o o' (command_of words) start × WorksFrom start status) ⊎ ((status ≡ NoMemory) × (x' ≡ x) × (h' ≡ h) × (s' ≡ s))
