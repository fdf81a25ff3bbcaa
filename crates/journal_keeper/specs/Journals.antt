-- What a keeper has of the histories of accounts.
use Rattle.std.specs.Prelude.{◌≡◌, ◌⊎◌, ℕ, zero, suc, List, [], ◌∷◌, ◌++◌, Option, IfSome, option_map, filter, map}
use Rattle.std.specs.Str.{bytes_eq}
use Rattle.journal_keeper.specs.EntryText.{IsEntryText, IsKeepable, IsNoEntryText, entry_text}
use Rattle.spec_history.specs.declared.entry.Entry.{Entry}

-- a text with the id of its account
abbrev pub Labelled : Type 0
Labelled = List ℕ × List ℕ

-- The texts of all accounts in the order in which they came, and those of a keep that failed: a stop may leave all of them behind the others, or none.
pub record Kept : Type 0 where
  pub texts : List Labelled
  pub doubt : List Labelled

-- What contracts see of a keeper: what it has, where it tells that, and its counts of faults and of damages. The counts stand at the last value of a u64.
pub record KeeperShown : Type 0 where
  pub told : Option Kept
  pub faults : ℕ
  pub damages : ℕ

-- a stop leaves just these texts
abbrev pub settled : List Labelled → Kept
settled texts = record { texts = texts; doubt = [] }

-- where a keeper tells what it has, nothing of it is in doubt
abbrev pub IsSettled : Option Kept → Type 0
IsSettled told = IfSome told (λ k. k.doubt ≡ [])

-- nothing was in doubt, and these came behind the others
abbrev pub Keeps : Option Kept → Option Kept → List Labelled → Type 0
Keeps old new more = IsSettled old × (new ≡ option_map (λ k. settled (k.texts ++ more)) old)

-- none came; where nothing was in doubt these may be now
abbrev pub FailsToKeep : Option Kept → Option Kept → List Labelled → Type 0
FailsToKeep old new more = (new ≡ old) ⊎ (IsSettled old × (new ≡ option_map (λ k. record { texts = k.texts; doubt = more }) old))

-- what is found when the keeper is opened again after a stop
abbrev pub IsLeft : Kept → List Labelled → Type 0
IsLeft k found = (found ≡ k.texts) ⊎ (found ≡ k.texts ++ k.doubt)

-- the texts of an account
abbrev pub texts_of : List ℕ → List Labelled → List (List ℕ)
texts_of account texts = map (λ (t : Labelled). t.1) (filter (λ (t : Labelled). bytes_eq t.0 account) texts)

-- the texts of these entries of an account
abbrev pub labelled : List ℕ → List Entry → List Labelled
labelled account es = map (λ e. (account, entry_text e)) es

abbrev pub AreKeepable : List Entry → Type 0
AreKeepable [] = Unit {0}
AreKeepable (e ∷ es) = IsKeepable e × AreKeepable es

-- the texts are those of these entries
abbrev pub AreEntriesOf : List Entry → List (List ℕ) → Type 0
AreEntriesOf [] [] = Unit {0}
AreEntriesOf (e ∷ es) (t ∷ ts) = IsEntryText e t × AreEntriesOf es ts
AreEntriesOf [] (t ∷ ts) = ⊥
AreEntriesOf (e ∷ es) [] = ⊥

-- the first of the texts that is no entry's stands at this place
abbrev pub IsFirstDamaged : List (List ℕ) → ℕ → List ℕ → Type 0
IsFirstDamaged [] place text = ⊥
IsFirstDamaged (t ∷ ts) zero text = (t ≡ text) × IsNoEntryText t
IsFirstDamaged (t ∷ ts) (suc n) text = ((e : Entry) × IsEntryText e t) × IsFirstDamaged ts n text

-- where a keeper tells what it has, this is the list of the account
abbrev pub Lists : Option Kept → List ℕ → List Entry → Type 0
Lists told account list = IfSome told (λ k. AreEntriesOf list (texts_of account k.texts))

-- where it tells that, the first damaged text of the account
abbrev pub HasDamage : Option Kept → List ℕ → ℕ → List ℕ → Type 0
HasDamage told account place text = IfSome told (λ k. IsFirstDamaged (texts_of account k.texts) place text)
