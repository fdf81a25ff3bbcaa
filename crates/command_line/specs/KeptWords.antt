-- What the words of `kept` ask for.
use Rattle.std.specs.Prelude.{List, [], ◌∷◌, true, false, if◌then◌else◌, Some, None, ℕ, codes, option_and_then, option_map}
use Rattle.std.specs.declared.option.Option.{Option}
use Rattle.std.specs.Str.{bytes_eq}
use Rattle.clap.specs.Words.{App, with_rule}
use Rattle.command_line.specs.Commands.{accepts, option_named, value_of, without_flags}

-- `kept` with a configuration, a journal, and a user where it is named
pub record KeptCommand : Type 0 where
  pub config : List ℕ
  pub journal : List ℕ
  pub user : Option (List ℕ)

-- `kept --config NAME --journal NAME [--user NAME]`
unfoldable pub kept_app : App
kept_app = with_rule (with_rule (with_rule (without_flags (codes "kept")) (option_named (codes "config") true)) (option_named (codes "journal") true)) (option_named (codes "user") false)

-- what the values of its options ask for
abbrev pub kept_with : Option (List ℕ) → Option (List ℕ) → Option (List ℕ) → Option KeptCommand
kept_with config journal user = option_and_then (λ c. option_map (λ j. record { config = c; journal = j; user = user }) journal) config

-- what the words behind `kept` ask for
abbrev pub kept_options : List (List ℕ) → Option KeptCommand
kept_options words =
    if accepts kept_app words
    then kept_with (value_of kept_app words (codes "config")) (value_of kept_app words (codes "journal")) (value_of kept_app words (codes "user"))
    else None

abbrev pub kept_named : List ℕ → List (List ℕ) → Option KeptCommand
kept_named name words = if bytes_eq name (codes "kept") then kept_options words else None

-- what the words of the command line ask for, where they are those of `kept`
abbrev pub kept_of : List (List ℕ) → Option KeptCommand
kept_of [] = None
kept_of (name ∷ words) = kept_named name words
