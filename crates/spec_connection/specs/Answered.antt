-- Requests that were answered one after the other.
use Rattle.std.specs.Prelude.{◌≡◌, ℕ, ℤ, zero, suc, ◌*◌, ◌≤◌, List, [], ◌∷◌, ◌++◌, Option, Some, None, length, map, ⊤}
use Rattle.spec_batch.specs.Chain.{Made, Chain, Shown, front_of}
use Rattle.spec_batch.specs.declared.desk.Front.{Front}

-- the moments by the number of the call: these first, and then those that are still to come
abbrev pub moment_behind : List ℤ → (ℕ → ℤ) → ℕ → ℤ
moment_behind [] now n = now n
moment_behind (t ∷ ts) now zero = t
moment_behind (t ∷ ts) now (suc n) = moment_behind ts now n

-- a clock that tells its moments gave just these, in order
abbrev pub Ticked : Option (ℕ → ℤ) → Option (ℕ → ℤ) → List ℤ → Type 0
Ticked None now ts = ⊤
Ticked (Some old) None ts = ⊥
Ticked (Some old) (Some now) ts = (n : ℕ) → old n ≡ moment_behind ts now n

-- What clock, fronts and desk were before and after so many requests, for which the clock gave these moments and the desk answered these calls. All calls together are one chain.
pub record AnsweredInOrder (clock clock' : Option (ℕ → ℤ)) (fronts fronts' : List Front) (d d' : Shown) (moments : List ℤ) (made : List Made) (count : ℕ) : Type 0 where
  pub ticked : Ticked clock clock' moments
  pub added : fronts' ≡ fronts ++ map front_of made
  pub chain : Chain d d' made
  -- a request has at most 16 calls (RFC 8620 section 2)
  pub few : length made ≤ 16 * count
