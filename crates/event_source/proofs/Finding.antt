-- What was found of a parameter's values so far.
use Rattle.std.proofs.Common.{ℕ, List, [], ◌∷◌, Option, Some, None}
use Rattle.std.specs.Borrow.{Bor}

abbrev pub found_so_far : Option (Bor (List ℕ)) → List (List ℕ)
found_so_far None = []
found_so_far (Some value) = value.now ∷ []
