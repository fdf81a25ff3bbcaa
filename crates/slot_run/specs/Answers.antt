-- What a look for a slot comes to.
use Rattle.std.specs.Prelude.{ℕ, ◌&&◌, List, Option, Some, None, Result, Err, codes, length, nat_le, ok_or, if◌then◌else◌}
use Rattle.account_desk.specs.SoleDesk.{account_at}
use Rattle.slot_run.specs.declared.refusal.Refusal.{Refusal}
use Rattle.slot_run.specs.declared.refusal.Refusal.TheVariants.{AccountNotFound, CalendarNotFound, InvalidArguments, NotJson}
use Rattle.spec_batch.specs.Meaning.{grant_of}
use Rattle.spec_calls.specs.Asking.{slot_given, text_argument}
use Rattle.spec_calls.specs.Methods.{are_well_given}
use Rattle.spec_calls.specs.declared.method.Method.{Method}
use Rattle.spec_calls.specs.declared.method.Method.TheVariants.{FindSlot}
use Rattle.spec_core.specs.Id.{is_id}
use Rattle.spec_core.specs.declared.limits.TheConstants.{MAX_SIZE_REQUEST}
use Rattle.spec_core.specs.declared.user.Grant.{Grant}
use Rattle.spec_history.specs.Base.{Base}
use Rattle.spec_history.specs.History.{changes_of}
use Rattle.spec_history.specs.declared.entry.Entry.{Entry}
use Rattle.spec_json.specs.Data.{Pair}
use Rattle.spec_json.specs.Json.{Reading, reading, value}
use Rattle.spec_json.specs.Parts.{as_object}
use Rattle.spec_slots.specs.AccountSlots.{slot_in_account}
use Rattle.spec_slots.specs.Requests.{SlotRequest, slot_request}
use Rattle.spec_slots.specs.declared.slot.FoundSlot.{FoundSlot}

-- what is asked of an account by the members of an object, which are the arguments of a method
abbrev pub request_by : Method → List Pair → Option SlotRequest
request_by method members = if are_well_given method members && is_id (text_argument members (codes "accountId")) then slot_request (slot_given members) else None

-- the slot in an account that a user is granted
abbrev pub slot_granted : List (Base × List Entry) → SlotRequest → Option Grant → Result FoundSlot Refusal
slot_granted accounts a None = Err AccountNotFound
slot_granted accounts a (Some g) = ok_or (slot_in_account (account_at accounts g.account).0.zones (changes_of (account_at accounts g.account).1) a) CalendarNotFound

abbrev pub slot_asked : List (Base × List Entry) → Option Grant → Option SlotRequest → Result FoundSlot Refusal
slot_asked accounts grant None = Err InvalidArguments
slot_asked accounts grant (Some a) = slot_granted accounts a grant

-- what the arguments of a method come to
abbrev pub slot_of_members : Method → List Grant → List (Base × List Entry) → List Pair → Result FoundSlot Refusal
slot_of_members method grants accounts members = slot_asked accounts (grant_of (text_argument members (codes "accountId")) grants) (request_by method members)

-- an object's members are these arguments
abbrev pub slot_of_object : Method → List Grant → List (Base × List Entry) → Option (List Pair) → Result FoundSlot Refusal
slot_of_object method grants accounts None = Err InvalidArguments
slot_of_object method grants accounts (Some members) = slot_of_members method grants accounts members

-- the method is `Resource/findSlot`
abbrev pub slot_read : List Grant → List (Base × List Entry) → Reading → Result FoundSlot Refusal
slot_read grants accounts (value d) = slot_of_object FindSlot grants accounts (as_object d)
slot_read grants accounts _ = Err NotJson

-- what bytes come to, on accounts of which a user has these grants
abbrev pub look_answer : List Grant → List (Base × List Entry) → List ℕ → Result FoundSlot Refusal
look_answer grants accounts bytes = if nat_le (length bytes) MAX_SIZE_REQUEST then slot_read grants accounts (reading bytes) else Err NotJson
