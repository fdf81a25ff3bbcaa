-- Texts among others.
use Rattle.std.proofs.Common.{◌≡◌, List, ◌++◌, ◌||◌, Bool, false, Option, Some, None, refl}
use Rattle.std.specs.List.{list_any}
use Rattle.std.specs.Option.{option_map_or}
use Rattle.spec_json.specs.Parts.{some_of}

pub any_of_some : {A : Type 0} (p : A → Bool) (o : Option A) (xs : List A) → list_any p (some_of o ++ xs) ≡ (option_map_or p o false || list_any p xs)
any_of_some p None xs = refl
any_of_some p (Some x) xs = refl
