-- What a run does is settled by what it is given.
use Rattle.std.specs.Prelude.{◌≡◌, ◌≢◌, ℕ, ℤ, List, [], Option, Some}
use Rattle.command_line.specs.Commands.{Command}
use Rattle.io_edge.specs.Outside.{OpenerShown}
use Rattle.jmapd_run.specs.declared.status.Status.{Status}
use Rattle.jmapd_run.specs.declared.status.Status.TheVariants.{NoMemory}
use Rattle.jmapd_run.specs.Completes.{NothingFailed}
use Rattle.jmapd_run.specs.Headline.{Surroundings}
use Rattle.jmapd_run.specs.Runs.{Runs}
use Rattle.jmapd_run.specs.Starts.{HasConfiguration, configuration_named}

-- A run in which nothing failed and memory sufficed: of what is asked, with these bytes in the file that it names as the configuration and this input, with a clock that was to
-- give these moments, it ended so and wrote this text.
pub record IsFinished (asked : Option Command) (configuration : Option (List ℕ)) (input : List ℕ) (clock : ℕ → ℤ) (status : Status) (text : List ℕ) : Type 0 where
  pub before : Surroundings
  pub after : Surroundings
  pub opener : OpenerShown
  pub opener' : OpenerShown
  pub runs : Runs before after opener opener' asked status
  pub has : HasConfiguration (configuration_named asked) opener configuration
  pub given : before.input.left ≡ Some input
  pub empty : before.output.holds ≡ Some []
  pub told : before.clock ≡ Some clock
  pub written : after.output.holds ≡ Some text
  pub nothing_failed : NothingFailed before after opener opener'
  pub had_memory : status ≢ NoMemory

-- the status and the output are a function of what is asked, the bytes of the configuration, the input and the moments
abbrev pub OutputsAreDetermined : Type 0
OutputsAreDetermined = (asked : Option Command) (configuration : Option (List ℕ)) (input : List ℕ) (clock : ℕ → ℤ) (s t : Status) (text other : List ℕ)
    → IsFinished asked configuration input clock s text → IsFinished asked configuration input clock t other → (s ≡ t) × (text ≡ other)
