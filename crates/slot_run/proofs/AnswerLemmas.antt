-- From a grant to the account that it is of.
use Rattle.std.proofs.Common.{◌≡◌, ◌<◌, ◌∙◌, ℕ, All, Bor, IfSome, List, None, Option, Some, ap, option_map, sym}
use Rattle.std.specs.Prelude.{ok_or}
use Rattle.account_desk.specs.SoleDesk.{account_at}
use Rattle.batch_exec.proofs.Granting.{grant_is_below}
use Rattle.slot_run.specs.Answers.{slot_granted}
use Rattle.slot_run.specs.declared.refusal.Refusal.TheVariants.{CalendarNotFound}
use Rattle.spec_batch.specs.Meaning.{grant_of}
use Rattle.spec_core.specs.declared.user.Grant.{Grant}
use Rattle.spec_history.specs.Base.{Base}
use Rattle.spec_history.specs.History.{changes_of}
use Rattle.spec_history.specs.declared.entry.Entry.{Entry}
use Rattle.spec_slots.specs.AccountSlots.{slot_in_account}
use Rattle.spec_slots.specs.Requests.{SlotRequest}
use Rattle.spec_slots.specs.declared.slot.FoundSlot.{FoundSlot}

-- The account of a grant is one that is open.
pub granted_within : (n : ℕ) (o : Option (Bor Grant)) (id : List ℕ) (gs : List Grant) → option_map (λ g. g.now) o ≡ grant_of id gs → All (λ (g : Grant). g.account < n) gs → IfSome o (λ g. g.now.account < n)
granted_within n None id gs is all = tt
granted_within n (Some g) id gs is all = grant_is_below n id gs g.now is all

-- What the account has that was looked at is the slot that is granted.
pub granted_slot : (accounts : List (Base × List Entry)) (asked : SlotRequest) (g : Grant) (a : Base × List Entry) (r : Option FoundSlot)
    → a ≡ account_at accounts g.account → r ≡ slot_in_account a.0.zones (changes_of a.1) asked → slot_granted accounts asked (Some g) ≡ ok_or r CalendarNotFound
granted_slot accounts asked g a r is found =
    ap (λ (x : Base × List Entry). ok_or (slot_in_account x.0.zones (changes_of x.1) asked) CalendarNotFound) (sym is)
    ∙ ap (λ (o : Option FoundSlot). ok_or o CalendarNotFound) (sym found)
