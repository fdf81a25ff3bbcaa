-- What the words of `slot` ask for.
use Rattle.std.specs.Prelude.{List, [], ◌∷◌, if◌then◌else◌, None, ℕ, codes}
use Rattle.std.specs.declared.option.Option.{Option}
use Rattle.std.specs.Str.{bytes_eq}
use Rattle.command_line.specs.KeptWords.{KeptCommand, kept_options}

-- behind the first word they are those of `kept`
abbrev pub slot_words_by : List ℕ → List (List ℕ) → Option KeptCommand
slot_words_by name words = if bytes_eq name (codes "slot") then kept_options words else None

-- what the words of the command line ask for, where they are those of `slot`
abbrev pub slot_words : List (List ℕ) → Option KeptCommand
slot_words [] = None
slot_words (name ∷ words) = slot_words_by name words
