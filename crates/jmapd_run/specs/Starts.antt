-- What a command and the configuration come to, before the input is read.
use Rattle.std.specs.Prelude.{◌≡◌, ◌⊎◌, ◌+◌, ℕ, List, Option, Some, None, Result, Ok, Err, option_and_then}
use Rattle.io_edge.specs.Outside.{IsMissing, Loads, OpenerShown, Rose, file_named}
use Rattle.spec_site.specs.Configuration.{Fault, Site, built_in, configured, user_named}
use Rattle.spec_site.specs.declared.field.Field.{Field}
use Rattle.spec_site.specs.declared.limits.TheConstants.{MAX_CONFIGURATION_BYTES}
use Rattle.command_line.specs.Commands.{Command, Listen, batch, listen, stdio, workload}

pub data Start : Type 0 where
  -- the words are no command's, or name a user that there isn't
  usage : Start
  -- the configuration couldn't be loaded, or there is none of its name
  not_opened : Start
  -- the first bad field of the configuration, with its first bad item
  misconfigured : Field → ℕ → Start
  -- one request, for a user of a site
  batch_for : Site → ℕ → Start
  -- one connection, for the users of a site
  stdio_of : Site → Start
  -- a workload, with the number that its generator begins with and its size
  workload_by : ℕ → ℕ → Start
  -- workers, for the users of a site
  workers_for : Listen → Site → Start

abbrev pub configuration_of : Command → Option (List ℕ)
configuration_of (batch config user) = config
configuration_of (stdio config) = Some config
configuration_of (workload number size) = None
configuration_of (listen l) = Some l.config

-- the name of the configuration that what is asked names, if it names one
abbrev pub configuration_named : Option Command → Option (List ℕ)
configuration_named asked = option_and_then configuration_of asked

-- The opener tells what the file of this name holds, if there is one. Without a name there are no bytes, and it needn't tell anything.
abbrev pub HasConfiguration : Option (List ℕ) → OpenerShown → Option (List ℕ) → Type 0
HasConfiguration None o bytes = bytes ≡ None
HasConfiguration (Some name) o bytes = (files : List (List ℕ × List ℕ)) × (o.files ≡ Some files) × (file_named files name ≡ bytes)

-- the user that `--user` names, or the first
abbrev pub IsUser : Site → Option (List ℕ) → ℕ → Type 0
IsUser site None user = user ≡ 0
IsUser site (Some name) user = user_named site name ≡ Some user

-- what is shown of the opener before and after
module _ (o o' : OpenerShown) where
  -- the file of this name was loaded, or its first bytes; they come to this
  abbrev pub IsLoaded : List ℕ → Result Site Fault → Type 0
  IsLoaded name what = (bytes : List ℕ) × Loads o.files name (MAX_CONFIGURATION_BYTES + 1) bytes × (configured bytes ≡ what)

  -- without a name the opener isn't asked
  abbrev pub IsSite : Option (List ℕ) → Site → Type 0
  IsSite None site = (site ≡ built_in) × (o' ≡ o)
  IsSite (Some name) site = IsLoaded name (Ok site)

  abbrev pub IsNotOpened : List ℕ → Type 0
  IsNotOpened name = IsMissing o.files name ⊎ Rose o.faults o'.faults

  abbrev pub IsStart : Option Command → Start → Type 0
  IsStart asked usage = ((asked ≡ None) × (o' ≡ o))
      ⊎ ((config : Option (List ℕ)) × (name : List ℕ) × (site : Site) × (asked ≡ Some (batch config (Some name))) × IsSite config site × (user_named site name ≡ None))
  IsStart asked not_opened = (c : Command) × (name : List ℕ) × (asked ≡ Some c) × (configuration_of c ≡ Some name) × IsNotOpened name
  IsStart asked (misconfigured field index) = (c : Command) × (name : List ℕ) × (asked ≡ Some c) × (configuration_of c ≡ Some name) × IsLoaded name (Err (record { field = field; index = index }))
  IsStart asked (batch_for site user) = (config : Option (List ℕ)) × (who : Option (List ℕ)) × (asked ≡ Some (batch config who)) × IsSite config site × IsUser site who user
  IsStart asked (stdio_of site) = (config : List ℕ) × (asked ≡ Some (stdio config)) × IsLoaded config (Ok site)
  IsStart asked (workload_by number size) = (asked ≡ Some (workload number size)) × (o' ≡ o)
  IsStart asked (workers_for l site) = (asked ≡ Some (listen l)) × IsLoaded l.config (Ok site)
