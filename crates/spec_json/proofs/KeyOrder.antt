-- Keys that rise from each to the next rise from each to every later one, so they are distinct.
use Rattle.std.proofs.Common.{◌≡◌, ℕ, List, [], ◌∷◌, true, refl, Less, Equal, Greater, Ordering}
pub use Rattle.std.proofs.lemmas.Bool.{and_parts as both}
use Rattle.std.proofs.lemmas.Cmp.{nat_list_cmp_total}
use Rattle.std.proofs.lemmas.Slice.Eq.{bytes_eq-Decides}
use Rattle.std.specs.Cmp.Lexicographic.{slice_cmp}
use Rattle.std.specs.Ordering.{nat_cmp, is_lt}
use Rattle.std.specs.Str.{bytes_eq}
use Rattle.spec_json.specs.Data.{Pair}
use Rattle.spec_json.specs.ObjectKeys.{is_above}

-- a key is itself
pub same_key : (k : List ℕ) → bytes_eq k k ≡ true
same_key k = (bytes_eq-Decides k k).1 refl

pub less_of : (o : Ordering) → is_lt o ≡ true → o ≡ Less
less_of Less h = refl
less_of Equal h = cc
less_of Greater h = cc

-- a key below the first is below the next
pub above_later : (k : List ℕ) (p : Pair) (ps : List Pair) → is_above k (p ∷ ps) ≡ true → is_above p.0 ps ≡ true → is_above k ps ≡ true
above_later k p [] h g = refl
above_later k p (q ∷ ps) h g =
    let less : slice_cmp nat_cmp k q.0 ≡ Less = nat_list_cmp_total.trans k p.0 q.0 (less_of _ h) (less_of _ g) in rw less refl
