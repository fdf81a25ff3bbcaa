-- The passes that workers have of the accounts that they share.
use Rattle.std.specs.Prelude.{◌≡◌, ℕ, List, [], ◌∷◌, Some, length, slice_get}
use Rattle.atomic_table.specs.Seated.{TableId}
use Rattle.account_lock.specs.Passes.{PassState, opened_pass}
use Rattle.spec_history.specs.Base.{Base}
use Rattle.spec_history.specs.declared.entry.Entry.{Entry}

-- the passes of one number of accounts before any call, each of one of these locks
abbrev pub fresh_passes : List TableId → List (Base × List Entry) → ℕ → List PassState
fresh_passes [] accounts number = []
fresh_passes (lock ∷ locks) [] number = []
fresh_passes (lock ∷ locks) (a ∷ accounts) number = opened_pass lock a.0 a.1 number ∷ fresh_passes locks accounts number

-- These desks share the accounts: there is one lock round each, and desk w has pass w of each, by which no call was made.
abbrev pub ShareAccounts : List (Base × List Entry) → List (List PassState × ℕ) → Type 0
ShareAccounts accounts desks =
    (locks : List TableId) × (length locks ≡ length accounts) × ((w : ℕ) (desk : List PassState × ℕ) → slice_get desks w ≡ Some desk → desk ≡ (fresh_passes locks accounts w, 0))
