-- What comes of opening an account at what its keeper has of it.
use Rattle.std.specs.Prelude.{◌≡◌, List, Option, ⊤}
use Rattle.cal_model.specs.GoesOn.{GoesOn}
use Rattle.journal_keeper.specs.EntryText.{IsNoEntryText}
use Rattle.journal_keeper.specs.Journals.{HasDamage, Kept, KeeperShown, Lists}
use Rattle.kept_account.specs.declared.open.UnopenedAccount.{UnopenedAccount}
use Rattle.kept_account.specs.declared.open.UnopenedAccount.TheVariants.{BadObject, Damaged, Failed, NoMemory}
use Rattle.spec_history.specs.Base.{Base}
use Rattle.spec_history.specs.History.{changes_of}
use Rattle.spec_history.specs.declared.entry.Entry.{Entry}

-- The account has just the entries that the keeper has of it, from which it goes on, and the keeper still has them.
pub record IsKept (told : Option Kept) (base : Base) (a : Base × List Entry × KeeperShown) : Type 0 where
  pub base_is : a.0 ≡ base
  pub listed : Lists told base.account_id a.1
  pub goes_on : GoesOn base.zones (changes_of a.1)
  pub same : a.2.told ≡ told

-- when each refusal comes
abbrev pub OpensNot : Option Kept → Base → UnopenedAccount → Type 0
OpensNot told base Failed = ⊤
OpensNot told base (Damaged place text) = IsNoEntryText text.items × HasDamage told base.account_id place text.items
OpensNot told base (BadObject kind id) = (list : List Entry) × Lists told base.account_id list × (GoesOn base.zones (changes_of list) → ⊥)
OpensNot told base NoMemory = ⊤
