-- What the words of `websocket` ask for.
use Rattle.std.specs.Prelude.{List, [], ◌∷◌, true, false, if◌then◌else◌, Some, None, ℕ, codes, option_and_then, option_map}
use Rattle.std.specs.declared.option.Option.{Option}
use Rattle.std.specs.Str.{bytes_eq}
use Rattle.clap.specs.Words.{App, with_rule}
use Rattle.command_line.specs.Commands.{accepts, count_in, count_or, option_named, value_of, without_flags}
use Rattle.command_line.specs.declared.listen.TheConstants.{DEFAULT_CONNECTIONS, MAX_CONNECTIONS, MAX_PORT}

-- `websocket` with a configuration and a port, for so many handshakes
pub record Websocket : Type 0 where
  pub config : List ℕ
  pub port : ℕ
  pub connections : ℕ

-- `websocket --config NAME --port P [--connections N]`
unfoldable pub websocket_app : App
websocket_app = with_rule (with_rule (with_rule (without_flags (codes "websocket")) (option_named (codes "config") true)) (option_named (codes "port") true)) (option_named (codes "connections") false)

-- what the values of its options ask for
abbrev pub websocket_with : Option (List ℕ) → Option (List ℕ) → Option (List ℕ) → Option Websocket
websocket_with config port connections =
    option_and_then (λ c. option_and_then (λ p. option_map (λ n. record { config = c; port = p; connections = n }) (count_or MAX_CONNECTIONS DEFAULT_CONNECTIONS connections))
    (option_and_then (count_in MAX_PORT) port)) config

-- what the words behind `websocket` ask for
abbrev pub websocket_options : List (List ℕ) → Option Websocket
websocket_options words =
    if accepts websocket_app words
    then websocket_with (value_of websocket_app words (codes "config")) (value_of websocket_app words (codes "port")) (value_of websocket_app words (codes "connections"))
    else None

abbrev pub websocket_named : List ℕ → List (List ℕ) → Option Websocket
websocket_named name words = if bytes_eq name (codes "websocket") then websocket_options words else None

-- what the words of the command line ask for, where they are those of `websocket`
abbrev pub websocket_of : List (List ℕ) → Option Websocket
websocket_of [] = None
websocket_of (name ∷ words) = websocket_named name words
