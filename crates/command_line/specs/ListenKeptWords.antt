-- What the words of `listen` ask for where it keeps journals.
use Rattle.std.specs.Prelude.{List, [], ◌∷◌, true, if◌then◌else◌, None, ℕ, codes, option_and_then, option_map}
use Rattle.std.specs.declared.option.Option.{Option}
use Rattle.std.specs.Str.{bytes_eq}
use Rattle.clap.specs.Words.{App, with_rule}
use Rattle.command_line.specs.Commands.{Listen, accepts, listen_app, listen_with, option_named, value_of}

-- `listen`, and the folder of the journals that it keeps
pub record ListenKept : Type 0 where
  pub listen : Listen
  pub journals : List ℕ

-- `listen --config NAME --port P [--workers W] [--connections N] [--log] [--sockets-port Q] [--socket-workers V] --journals FOLDER`
unfoldable pub listen_kept_app : App
listen_kept_app = with_rule listen_app (option_named (codes "journals") true)

-- what a `listen` and the value of `journals` ask for
abbrev pub listen_kept_with : Option Listen → Option (List ℕ) → Option ListenKept
listen_kept_with listen journals = option_and_then (λ l. option_map (λ j. record { listen = l; journals = j }) journals) listen

-- what the words behind `listen` ask for
abbrev pub listen_kept_options : List (List ℕ) → Option ListenKept
listen_kept_options words =
    if accepts listen_kept_app words
    then listen_kept_with (listen_with (value_of listen_kept_app words (codes "config")) (value_of listen_kept_app words (codes "port")) (value_of listen_kept_app words (codes "workers"))
    (value_of listen_kept_app words (codes "connections")) (value_of listen_kept_app words (codes "log")) (value_of listen_kept_app words (codes "sockets-port"))
    (value_of listen_kept_app words (codes "socket-workers"))) (value_of listen_kept_app words (codes "journals"))
    else None

unfoldable pub listen_kept_named : List ℕ → List (List ℕ) → Option ListenKept
listen_kept_named name words = if bytes_eq name (codes "listen") then listen_kept_options words else None

-- what the words of the command line ask for, where they are those of `listen` with journals
abbrev pub listen_kept_of : List (List ℕ) → Option ListenKept
listen_kept_of [] = None
listen_kept_of (name ∷ words) = listen_kept_named name words
