-- Which calls are to fail, and how many have failed.
use Rattle.std.specs.Prelude.{◌≡◌, ◌↔◌, ℕ, zero, suc, ◌+◌, ◌-◌, ◌^◌, ◌==◌, ◌&&◌, min, nat_lt, Bool, IsTrue, List, if◌then◌else◌}
use Rattle.std.specs.List.{list_any}
use Rattle.io_edge.specs.declared.failing_calls.FailingCalls.{FailingCalls}

-- how many of the first calls are among the numbers
abbrev pub failed_among : List ℕ → ℕ → ℕ
failed_among numbers zero = 0
failed_among numbers (suc calls) = failed_among numbers calls + (if list_any (λ n. n == calls) numbers then 1 else 0)

-- how many calls have failed
abbrev pub faults_of : FailingCalls → ℕ
faults_of f = failed_among f.numbers.items f.calls

-- the next call is one that is to fail; at the last value of the count none is
abbrev pub is_to_fail : FailingCalls → Bool
is_to_fail f = nat_lt f.calls (2 ^ 64 - 1) && list_any (λ n. n == f.calls) f.numbers.items

-- a call was counted, and failed exactly where its number is listed
pub record CountsCall (before after : FailingCalls) (failed : Type 0) : Type 0 where
  pub listed : failed ↔ IsTrue (is_to_fail before)
  pub counted : after.calls ≡ min (before.calls + 1) (2 ^ 64 - 1)
  pub numbers : after.numbers.items ≡ before.numbers.items
