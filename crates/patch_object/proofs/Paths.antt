-- A key that isn't there can't be taken out.
use Rattle.std.proofs.Common.{◌≡◌, ℕ, List, [], ◌∷◌, Bool, true, false, Option, Some, None, if◌then◌else◌, ap, refl}
use Rattle.std.specs.Str.{bytes_eq}
use Rattle.spec_json.specs.Data.{Data, Pair, lookup}
use Rattle.spec_json.specs.Edit.{without}

absent_step : (b : Bool) (d : Data) (o : Option Data) (x y z : List Pair) → (if b then Some d else o) ≡ None → (o ≡ None → y ≡ z) → (if b then x else y) ≡ z
absent_step true d o x y z h f = cc
absent_step false d o x y z h f = f h

pub without-absent : (k : List ℕ) (ps : List Pair) → lookup k ps ≡ None → without k ps ≡ ps
without-absent k [] h = refl
without-absent k (p ∷ ps) h = absent_step (bytes_eq p.0 k) p.1 (lookup k ps) ps (p ∷ without k ps) (p ∷ ps) h (λ n. ap (λ qs. p ∷ qs) (without-absent k ps n))
