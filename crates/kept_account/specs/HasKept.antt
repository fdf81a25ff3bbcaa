-- What the keeper of an account has of it, and what a stop leaves.
use Rattle.std.specs.Prelude.{◌≡◌, ◌⊎◌, List, [], ◌++◌, Option, None, IfSome, map}
use Rattle.cal_model.specs.GoesOn.{GoesOn}
use Rattle.journal_keeper.specs.EntryText.{entry_text}
use Rattle.journal_keeper.specs.Journals.{AreEntriesOf, IsLeft, Kept, Labelled, Lists, labelled, texts_of}
use Rattle.spec_history.specs.Base.{Base}
use Rattle.spec_history.specs.History.{changes_of}
use Rattle.spec_history.specs.Signed.{Begins}
use Rattle.spec_history.specs.declared.entry.Entry.{Entry}

-- Nothing is in doubt; or the entries of one call are, and an account goes on from them behind those of the account.
abbrev pub IsDoubt : Base → List Entry → List Labelled → Type 0
IsDoubt base h doubt =
    (doubt ≡ []) ⊎ ((es : List Entry) × (doubt ≡ labelled base.account_id es) × AreEntriesOf es (map entry_text es) × GoesOn base.zones (changes_of (h ++ es)))

-- Where a keeper tells what it has, its list of the account is the account's entries.
pub record HasKept (told : Option Kept) (base : Base) (h : List Entry) : Type 0 where
  pub listed : Lists told base.account_id h
  pub doubted : IfSome told (λ k. IsDoubt base h k.doubt)

-- Whatever a stop leaves, an account opens again at it: at these entries, or at them and those of one call that was told that they could not be kept.
abbrev pub LeavesSound : Option Kept → Base → List Entry → Type 0
LeavesSound told base h = IfSome told (λ k. (found : List Labelled) → IsLeft k found
    → (list : List Entry) × AreEntriesOf list (texts_of base.account_id found) × Begins list h × GoesOn base.zones (changes_of list))
