-- What a spawner counts of jobs that it joins one after the other.
use Rattle.std.proofs.Common.{◌≡◌, ℕ, ◌<◌, ◌≤◌, List, [], ◌∷◌, ◌++◌, length, refl, arith}
use Rattle.std.proofs.lemmas.List.Sums.{sum_by-append}
use Rattle.std.specs.Prelude.{◌-◌, ◌^◌, sum_by}
use Rattle.listen_edge.specs.Ending.{counted}

-- the count went on from one number to another over these jobs' answers
pub record Counted {K : Type 0} (each : K → ℕ) (old new : ℕ) (backs : List K) : Type 0 where
  pub sum : counted new 0 ≡ counted old (sum_by each backs)
  pub within : 0 < length backs → new ≤ 2 ^ 64 - 1

module _ {K : Type 0} (each : K → ℕ) where
  pub none_counted : (n : ℕ) → Counted each n n []
  none_counted n = record { sum = refl; within = λ some. absurd (omega (arith, some)) }

  pub counted_on : (old now new : ℕ) (backs : List K) (back : K) → Counted each old now backs → new ≡ counted now (each back) → Counted each old new (backs ++ back ∷ [])
  counted_on old now new backs back c is =
      let before = c.sum in
      let one = sum_by-append each backs (back ∷ []) in
      record { sum = omega (arith, before, is, one); within = λ some. omega (arith, is) }

  pub all_counted : (old new : ℕ) (backs : List K) → 0 < length backs → Counted each old new backs → new ≡ counted old (sum_by each backs)
  all_counted old new backs some c = (let sum = c.sum in let within = c.within some in omega (arith, sum, within))
