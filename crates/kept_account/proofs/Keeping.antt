-- What the keeper of an account has of it behind a keep, and what a stop leaves.
use Rattle.std.proofs.Common.{◌≡◌, ◌∙◌, ◌++◌, [], ℕ, List, Option, Some, None, Result, Ok, Err, OnErr, ap, append-nil, inl, inr, map, option_map, refl, subst, sym}
use Rattle.cal_model.specs.Answer.{entries_from}
use Rattle.cal_model.specs.GoesOn.{GoesOn}
use Rattle.account_core.proofs.Committing.{changes_committed}
use Rattle.journal_keeper.proofs.AccountTexts.{bytes_same, entries_join, texts_own}
use Rattle.journal_keeper.proofs.Loading.{texts-append}
use Rattle.journal_keeper.specs.EntryText.{entry_text}
use Rattle.journal_keeper.specs.declared.keeper.KeepError.{KeepError}
use Rattle.journal_keeper.specs.declared.keeper.KeepError.TheVariants.{Failed, NoMemory}
use Rattle.journal_keeper.specs.Journals.{AreEntriesOf, FailsToKeep, IsLeft, Keeps, Kept, Labelled, labelled, texts_of}
use Rattle.kept_account.specs.HasKept.{HasKept, IsDoubt, LeavesSound}
use Rattle.spec_history.specs.Base.{Base}
use Rattle.spec_history.specs.History.{changes_of}
use Rattle.spec_history.specs.Signed.{Begins}
use Rattle.spec_history.specs.declared.entry.Change.{Change}
use Rattle.spec_history.specs.declared.entry.Entry.{Entry}
use Rattle.spec_history.specs.declared.stamp.Stamp.{Stamp}

-- entries of the account behind its texts
own_behind : (id : List ℕ) (h es : List Entry) (texts : List Labelled) → AreEntriesOf h (texts_of id texts) → AreEntriesOf es (map entry_text es) → AreEntriesOf (h ++ es) (texts_of id (texts ++ labelled id es))
own_behind id h es texts listed back =
    subst (AreEntriesOf (h ++ es)) (sym (texts-append id texts (labelled id es) ∙ ap (λ (ts : List (List ℕ)). texts_of id texts ++ ts) (texts_own id id es (bytes_same id))))
    (entries_join h es (texts_of id texts) (map entry_text es) listed back)

module _ (base : Base) (h : List Entry) where
  -- the keeper's list grows with the account
  pub kept_more : (told told' : Option Kept) (es : List Entry) → Keeps told told' (labelled base.account_id es) → AreEntriesOf es (map entry_text es) → HasKept told base h → HasKept told' base (h ++ es)
  kept_more None told' es keeps back has = subst (λ (t : Option Kept). HasKept t base (h ++ es)) (sym keeps.1) (record { listed = tt; doubted = tt })
  kept_more (Some k) told' es keeps back has =
      subst (λ (t : Option Kept). HasKept t base (h ++ es)) (sym keeps.1) (record { listed = own_behind base.account_id h es k.texts has.listed back; doubted = inl refl })

  -- a keep that failed leaves the list, and maybe its entries in doubt
  pub kept_same : (told told' : Option Kept) (es : List Entry) → FailsToKeep told told' (labelled base.account_id es) → AreEntriesOf es (map entry_text es) → GoesOn base.zones (changes_of (h ++ es)) → HasKept told base h → HasKept told' base h
  kept_same told told' es (inl same) back sound has = subst (λ (t : Option Kept). HasKept t base h) (sym same) has
  kept_same None told' es (inr doubts) back sound has = subst (λ (t : Option Kept). HasKept t base h) (sym doubts.1) (record { listed = tt; doubted = tt })
  kept_same (Some k) told' es (inr doubts) back sound has =
      subst (λ (t : Option Kept). HasKept t base h) (sym doubts.1) (record { listed = has.listed; doubted = inr (es, refl, back, sound) })

  -- an account goes on from the changes of a call behind the history, so it does from its entries
  pub goes_on_call : (stamp : Stamp) (cs : List Change) → GoesOn base.zones (changes_of h ++ cs) → GoesOn base.zones (changes_of (h ++ entries_from stamp 0 cs))
  goes_on_call stamp cs goes = subst (GoesOn base.zones) (sym (changes_committed h (h ++ entries_from stamp 0 cs) stamp 0 cs refl)) goes

  abbrev OpensAt : List Labelled → Type 0
  OpensAt found = (list : List Entry) × AreEntriesOf list (texts_of base.account_id found) × Begins list h × GoesOn base.zones (changes_of list)

  opens_same : (k : Kept) (found : List Labelled) → AreEntriesOf h (texts_of base.account_id k.texts) → GoesOn base.zones (changes_of h) → found ≡ k.texts → OpensAt found
  opens_same k found listed sound is = (h, subst (λ (ts : List Labelled). AreEntriesOf h (texts_of base.account_id ts)) (sym is) listed, ([], sym (append-nil h)), sound)

  opens_left : (k : Kept) (found : List Labelled) → AreEntriesOf h (texts_of base.account_id k.texts) → GoesOn base.zones (changes_of h) → IsDoubt base h k.doubt → IsLeft k found → OpensAt found
  opens_left k found listed sound doubt (inl is) = opens_same k found listed sound is
  opens_left k found listed sound (inl none) (inr is) = opens_same k found listed sound (is ∙ ap (λ (ts : List Labelled). k.texts ++ ts) none ∙ append-nil k.texts)
  opens_left k found listed sound (inr (es, are, back, more)) (inr is) = (
    h ++ es,
    subst (λ (ts : List Labelled). AreEntriesOf (h ++ es) (texts_of base.account_id ts)) (sym (is ∙ ap (λ (ts : List Labelled). k.texts ++ ts) are)) (own_behind base.account_id h es k.texts listed back),
    (es, refl),
    more,
  )

  -- an account goes on from whatever a stop leaves
  pub leaves_sound : (told : Option Kept) → GoesOn base.zones (changes_of h) → HasKept told base h → LeavesSound told base h
  leaves_sound None sound has = tt
  leaves_sound (Some k) sound has = λ found left. opens_left k found has.listed sound has.doubted left

-- what follows of each error follows where there is one
pub by_error : {P : Type 0} (r : Result (Unit {0}) KeepError) → (r ≡ Err Failed → P) → (r ≡ Err NoMemory → P) → OnErr r P
by_error (Ok x) failed wanted = tt
by_error (Err Failed) failed wanted = failed refl
by_error (Err NoMemory) failed wanted = wanted refl
