use Rattle.std.proofs.Common.{◌≡◌, ◌==◌, ◌||◌, ℕ, drop}
use Rattle.std.specs.BTreeSet.{contains}
use Rattle.std.specs.List.{list_any}
use Rattle.std.specs.Ordering.{nat_cmp}
use Rattle.account_core.proofs.uses.put_all.Given as goal

abbrev pub invariant-loop-calendar : goal.invariant-loop-calendar
invariant-loop-calendar l = (n : ℕ) → (list_any (λ m. m == n) (drop l.calendar-index l.calendars) || contains nat_cmp l.in_use n)
    ≡ (list_any (λ m. m == n) l.calendars || contains nat_cmp l.fn.in_use n)
