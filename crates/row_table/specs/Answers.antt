-- What is found of the rows of tables.
use Rattle.std.specs.Prelude.{ℕ, List, Option, Some, None, codes, if◌then◌else◌, bytes_eq}

-- what is told of a row whose text came, if it could be read, and whose answer is another text
abbrev pub other_than : Option (List ℕ) → List ℕ → Option (List ℕ)
other_than (Some came) answer = if bytes_eq came answer then None else Some came
other_than None answer = Some (codes "the row can't be read")
