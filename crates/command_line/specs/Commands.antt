-- What the words of the command line ask for. Of the words behind the first it is what `clap` states.
use Rattle.std.specs.Prelude.{ℕ, ◌+◌, ◌==◌, ◌&&◌, List, [], ◌∷◌, Bool, true, false, not, if◌then◌else◌, Some, None, codes, nat_le, nat_lt, option_and_then, option_map}
use Rattle.std.specs.Option.{option_map_or}
use Rattle.std.specs.declared.option.Option.{Option}
use Rattle.std.specs.Str.{bytes_eq}
use Rattle.clap.specs.Words.{App, Rule, fault_of, first_of, matches_of, new_app, new_rule, with_rule}
use Rattle.clap.specs.Simple.{on_top}
use Rattle.clap.specs.Walk.{is_empty}
use Rattle.clap.specs.declared.builder.action.ArgAction.TheVariants.{Set, SetTrue}
use Rattle.spec_json.specs.Number.{number_in}
use Rattle.command_line.specs.declared.listen.TheConstants.{DEFAULT_CONNECTIONS, DEFAULT_SOCKET_WORKERS, DEFAULT_WORKERS, MAX_ALL_WORKERS, MAX_CONNECTIONS, MAX_PORT, MAX_WORKERS}
use Rattle.command_line.specs.declared.workload.TheConstants.{MAX_NUMBER, MAX_SIZE}

-- so many workers that serve the sockets of a port
pub record SocketCrew : Type 0 where
  pub port : ℕ
  pub workers : ℕ

-- what `listen` is to do: with a configuration, a port, and so many workers, each for so many connections; whether a line tells of each request; and who serves sockets beside
-- them, if anybody does
pub record Listen : Type 0 where
  pub config : List ℕ
  pub port : ℕ
  pub workers : ℕ
  pub connections : ℕ
  pub log : Bool
  pub sockets : Option SocketCrew

-- how many workers serve sockets, and on which port: none, on no port, where nobody does
abbrev pub socket_workers : Option SocketCrew → ℕ
socket_workers crew = option_map_or (λ c. c.workers) crew 0

abbrev pub socket_port : Option SocketCrew → ℕ
socket_port crew = option_map_or (λ c. c.port) crew 0

-- how many workers there are of both kinds
abbrev pub all_workers : Listen → ℕ
all_workers l = l.workers + socket_workers l.sockets

-- `batch` with a configuration and a user, each by its name where it is given, `stdio` with a configuration, `workload` with the number that its generator begins with and its
-- size, or `listen`
pub data Command : Type 0 where
  batch : Option (List ℕ) → Option (List ℕ) → Command
  stdio : List ℕ → Command
  workload : ℕ → ℕ → Command
  listen : Listen → Command

-- a command of `clap` without options, whose words don't begin with the program's name; it has no `--help` and no `--version`
abbrev pub without_flags : List ℕ → App
without_flags name = on_top (λ s. record s { no_binary_name = true; disable_help_flag = true; disable_version_flag = true }) (new_app name)

-- an option `--name VALUE`
abbrev pub option_named : List ℕ → Bool → Rule
option_named name required = record (new_rule name) { long = Some name; action = Some Set; required = required }

-- a flag `--name`, whose value is `true` where it is given, and else `false`
abbrev pub flag_named : List ℕ → Rule
flag_named name = record (new_rule name) { long = Some name; action = Some SetTrue }

-- `batch [--config NAME] [--user NAME]`
unfoldable pub batch_app : App
batch_app = with_rule (with_rule (without_flags (codes "batch")) (option_named (codes "config") false)) (option_named (codes "user") false)

-- `stdio --config NAME`
unfoldable pub stdio_app : App
stdio_app = with_rule (without_flags (codes "stdio")) (option_named (codes "config") true)

-- `workload --number N --size M`
unfoldable pub workload_app : App
workload_app = with_rule (with_rule (without_flags (codes "workload")) (option_named (codes "number") true)) (option_named (codes "size") true)

-- `listen --config NAME --port P [--workers W] [--connections N] [--log] [--sockets-port Q] [--socket-workers V]`
unfoldable pub listen_app : App
listen_app =
    with_rule (with_rule (with_rule (with_rule (with_rule (with_rule (with_rule (without_flags (codes "listen")) (option_named (codes "config") true)) (option_named (codes "port") true))
    (option_named (codes "workers") false)) (option_named (codes "connections") false)) (flag_named (codes "log"))) (option_named (codes "sockets-port") false)) (option_named (codes "socket-workers") false)

-- `clap` finds no fault with the words of a command
abbrev pub accepts : App → List (List ℕ) → Bool
accepts app words = is_empty (fault_of app words)

-- the value of an option, where it is given
abbrev pub value_of : App → List (List ℕ) → List ℕ → Option (List ℕ)
value_of app words name = first_of name (matches_of app words)

-- what the words behind `batch` ask for
abbrev pub batch_of : List (List ℕ) → Option Command
batch_of words =
    if accepts batch_app words
    then Some (batch (value_of batch_app words (codes "config")) (value_of batch_app words (codes "user")))
    else None

-- what the words behind `stdio` ask for
abbrev pub stdio_of : List (List ℕ) → Option Command
stdio_of words = if accepts stdio_app words then option_map stdio (value_of stdio_app words (codes "config")) else None

-- ---- numbers

-- this number, where it is at most so great
abbrev pub no_more_than : ℕ → ℕ → Option ℕ
no_more_than most n = if nat_le n most then Some n else None

-- the number up to the most that a text writes out
abbrev pub number_up_to : ℕ → List ℕ → Option ℕ
number_up_to most text = option_and_then (no_more_than most) (number_in text)

-- this number, where it is from 1 to the most
abbrev pub within : ℕ → ℕ → Option ℕ
within most n = if nat_lt 0 n && nat_le n most then Some n else None

-- the number from 1 to the most that a text writes out
abbrev pub count_in : ℕ → List ℕ → Option ℕ
count_in most text = option_and_then (within most) (number_in text)

-- ---- commands

-- what the values of the options of `workload` ask for
abbrev pub workload_with : Option (List ℕ) → Option (List ℕ) → Option Command
workload_with number size = option_and_then (λ n. option_map (workload n) (option_and_then (count_in MAX_SIZE) size)) (option_and_then (number_up_to MAX_NUMBER) number)

-- what the words behind `workload` ask for
abbrev pub workload_of : List (List ℕ) → Option Command
workload_of words = if accepts workload_app words then workload_with (value_of workload_app words (codes "number")) (value_of workload_app words (codes "size")) else None

-- the number of an option, or another one where it isn't given
abbrev pub count_or : ℕ → ℕ → Option (List ℕ) → Option ℕ
count_or most default None = Some default
count_or most default (Some text) = count_in most text

-- whether the value of a flag is that of one that is given
abbrev pub is_given : Option (List ℕ) → Bool
is_given None = false
is_given (Some text) = bytes_eq text (codes "true")

-- the workers of sockets that the values of a port and of a number ask for
abbrev pub crew_with : List ℕ → Option (List ℕ) → Option SocketCrew
crew_with port many =
    option_and_then (λ q. option_map (λ v. record { port = q; workers = v }) (count_or MAX_WORKERS DEFAULT_SOCKET_WORKERS many)) (count_in MAX_PORT port)

-- they have a port of their own, and are no more than may be beside so many workers
abbrev pub is_beside : ℕ → ℕ → SocketCrew → Bool
is_beside port workers c = not (c.port == port) && nat_le (workers + c.workers) MAX_ALL_WORKERS

abbrev pub crew_beside : ℕ → ℕ → SocketCrew → Option SocketCrew
crew_beside port workers c = if is_beside port workers c then Some c else None

-- who serves sockets beside so many workers of a port: nobody where no port is given for them, and then no number either
abbrev pub sockets_with : ℕ → ℕ → Option (List ℕ) → Option (List ℕ) → Option (Option SocketCrew)
sockets_with port workers None None = Some None
sockets_with port workers None (Some many) = None
sockets_with port workers (Some text) many = option_map Some (option_and_then (crew_beside port workers) (crew_with text many))

-- what the values of the options of `listen` ask for
abbrev pub listen_with : Option (List ℕ) → Option (List ℕ) → Option (List ℕ) → Option (List ℕ) → Option (List ℕ) → Option (List ℕ) → Option (List ℕ) → Option Listen
listen_with config port workers connections log sockets many =
    option_and_then (λ c. option_and_then (λ p. option_and_then (λ w. option_and_then (λ n.
    option_map (λ s. record { config = c; port = p; workers = w; connections = n; log = is_given log; sockets = s }) (sockets_with p w sockets many))
    (count_or MAX_CONNECTIONS DEFAULT_CONNECTIONS connections)) (count_or MAX_WORKERS DEFAULT_WORKERS workers)) (option_and_then (count_in MAX_PORT) port)) config

-- what the words behind `listen` ask for
abbrev pub listen_of : List (List ℕ) → Option Listen
listen_of words =
    if accepts listen_app words
    then listen_with (value_of listen_app words (codes "config")) (value_of listen_app words (codes "port")) (value_of listen_app words (codes "workers"))
    (value_of listen_app words (codes "connections")) (value_of listen_app words (codes "log")) (value_of listen_app words (codes "sockets-port")) (value_of listen_app words (codes "socket-workers"))
    else None

-- what the words behind a command's name ask for
unfoldable pub command_named : List ℕ → List (List ℕ) → Option Command
command_named name words =
    if bytes_eq name (codes "batch") then batch_of words
    else (if bytes_eq name (codes "stdio") then stdio_of words
    else (if bytes_eq name (codes "workload") then workload_of words
    else (if bytes_eq name (codes "listen") then option_map listen (listen_of words) else None)))

-- what the words of the command line ask for, where they are a command's
abbrev pub command_of : List (List ℕ) → Option Command
command_of [] = None
command_of (name ∷ words) = command_named name words
