-- The number of calls that one author may make.
use Rattle.std.specs.Prelude.{ℕ, ◌^◌}

abbrev pub most_turns : ℕ
most_turns = 2 ^ 40
