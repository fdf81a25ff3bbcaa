-- What a run does, whatever bytes come: the main theorem's statement for the program.
use Rattle.std.specs.Prelude.{◌≡◌, ◌⊎◌, ◌+◌, ◌≤◌, ℕ, ℤ, List, Bool, true, false, Option, Some, None}
use Rattle.spec_core.specs.declared.limits.TheConstants.{MAX_SIZE_REQUEST}
use Rattle.spec_batch.specs.Chain.{Shown}
use Rattle.account_desk.specs.FreshDesk.{IsSole, fresh_desk}
use Rattle.command_line.specs.Commands.{Command, batch, listen, stdio, workload}
use Rattle.jmapd_run.specs.Headline.{AnswersInput, IsWorkText, Surroundings}
use Rattle.spec_connection.specs.Serving.{Serves, Setting}
use Rattle.io_edge.specs.Outside.{ConsumesAtMost, Grows, GrowsByPrefix, OpenerShown, Rose, SinkShown, Ticks}
use Rattle.spec_site.specs.Configuration.{Site}
use Rattle.spec_connection.specs.declared.served.ConnEnd.{ConnEnd}
use Rattle.spec_connection.specs.declared.served.ConnEnd.TheVariants as end
use Rattle.spec_connection.specs.declared.served.Served.{Served}
use Rattle.spec_connection.specs.declared.served.TheConstants.{MAX_MESSAGES}
use Rattle.jmapd_run.specs.declared.status.Status.{Status}
use Rattle.jmapd_run.specs.declared.status.Status.TheVariants.{Config, Cut, Done, NoMemory, OpenFault, ReadFault, Refused, Usage, WriteFault}
use Rattle.jmapd_run.specs.Starts.{IsStart, Start, batch_for, misconfigured, not_opened, stdio_of, usage, workload_by}

-- the commands that `run` knows: `listen` is none of them
abbrev pub streamed : Option Command → Option Command
streamed None = None
streamed (Some (batch config user)) = Some (batch config user)
streamed (Some (stdio config)) = Some (stdio config)
streamed (Some (workload number size)) = Some (workload number size)
streamed (Some (listen l)) = None

-- how `stdio` ends, by how its connection ended; its desk never has made as many calls as it may
abbrev pub status_of : ConnEnd → Option Status
status_of end.Closed = Some Done
status_of end.CloseAsked = Some Done
status_of (end.BadHead status) = Some Cut
status_of end.Truncated = Some Cut
status_of end.Quota = Some Cut
status_of end.ReadFault = Some ReadFault
status_of end.WriteFault = Some WriteFault
status_of end.NoMemory = Some NoMemory
status_of end.PassSpent = None

abbrev pub with_desk : Surroundings → Shown → Setting
with_desk x desk = record { source = x.input; sink = x.output; clock = x.clock; desk = desk }

-- what is shown of the output before and after
module _ (k k' : SinkShown) where
  -- At `Done` the output grew by the four lines of a workload, at `WriteFault` by a prefix of them, and else it is untouched.
  abbrev pub WorkloadEnds : ℕ → ℕ → Status → Type 0
  WorkloadEnds number size Done = (text : List ℕ) × IsWorkText number size text × Grows k.holds k'.holds text
  WorkloadEnds number size WriteFault = Rose k.faults k'.faults × (text : List ℕ) × IsWorkText number size text × GrowsByPrefix k.holds k'.holds text
  WorkloadEnds number size NoMemory = k' ≡ k
  WorkloadEnds number size _ = ⊥

module _ (x x' : Surroundings) where
  -- At `Done` and `Refused` the output grew by the whole text of the answer, at `WriteFault` by a prefix of it, and else it is untouched. The clock isn't read before the input.
  abbrev pub BatchEnds : Site → ℕ → Status → Type 0
  BatchEnds site user Done = (text : List ℕ) × AnswersInput site user x x' false text × Grows x.output.holds x'.output.holds text
  BatchEnds site user Refused = (text : List ℕ) × AnswersInput site user x x' true text × Grows x.output.holds x'.output.holds text
  BatchEnds site user ReadFault = Rose x.input.faults x'.input.faults × ConsumesAtMost x.input.left x'.input.left (MAX_SIZE_REQUEST + 1) × (x'.output ≡ x.output) × (x'.clock ≡ x.clock)
  BatchEnds site user WriteFault =
      Rose x.output.faults x'.output.faults × (is_refusal : Bool) × (text : List ℕ) × AnswersInput site user x x' is_refusal text × GrowsByPrefix x.output.holds x'.output.holds text
  BatchEnds site user NoMemory = ConsumesAtMost x.input.left x'.input.left (MAX_SIZE_REQUEST + 1) × (x'.output ≡ x.output) × ((x'.clock ≡ x.clock) ⊎ ((moment : ℤ) × Ticks x.clock x'.clock moment))
  BatchEnds site user _ = ⊥

  -- one request was read and answered
  pub record RunsBatch (site : Site) (user : ℕ) (status : Status) : Type 0 where
    pub input_later : x.input.faults ≤ x'.input.faults
    pub output_later : x.output.faults ≤ x'.output.faults
    pub how : BatchEnds site user status

  -- One connection was served over fresh accounts, in whose histories nobody else takes part.
  pub record RunsStdio (site : Site) (status : Status) : Type 0 where
    pub desk : Shown
    pub served : Served
    pub serves : Serves site MAX_MESSAGES (with_desk x (fresh_desk site)) (with_desk x' desk) served
    pub sole : IsSole desk
    pub ended : status_of served.end ≡ Some status

  -- A workload was done. Neither the input nor the clock was touched.
  pub record RunsWorkload (number size : ℕ) (status : Status) : Type 0 where
    pub input : x'.input ≡ x.input
    pub clock : x'.clock ≡ x.clock
    pub output_later : x.output.faults ≤ x'.output.faults
    pub how : WorkloadEnds x.output x'.output number size status

  -- what comes of a start, and with which status
  abbrev pub RunsFrom : Start → Status → Type 0
  RunsFrom usage Usage = x' ≡ x
  RunsFrom not_opened OpenFault = x' ≡ x
  RunsFrom (misconfigured field index) (Config f i) = (f ≡ field) × (i ≡ index) × (x' ≡ x)
  RunsFrom (batch_for site user) status = RunsBatch site user status
  RunsFrom (stdio_of site) status = RunsStdio site status
  RunsFrom (workload_by number size) status = RunsWorkload number size status
  RunsFrom _ _ = ⊥

  -- What is asked and the opener come to a start, and from there the run goes on; or memory ran out before anything else was touched.
  abbrev pub Runs : OpenerShown → OpenerShown → Option Command → Status → Type 0
  Runs o o' asked status = ((start : Start) × IsStart o o' asked start × RunsFrom start status) ⊎ ((status ≡ NoMemory) × (x' ≡ x))
