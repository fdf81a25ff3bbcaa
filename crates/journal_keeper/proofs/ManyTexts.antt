-- The texts of many entries.
use Rattle.std.proofs.Common.{◌≡◌, ◌∙◌, ◌++◌, ◌∷◌, [], ◌+◌, ◌<◌, ℕ, List, get_or, length, map, sym, ap, subst, take}
use Rattle.std.proofs.lemmas.List.{map-append, take_more}
use Rattle.journal_keeper.specs.EntryText.{IsEntryText, IsKeepable, IsNoEntryText, entry_text}
use Rattle.journal_keeper.specs.Journals.{AreEntriesOf, AreKeepable, Labelled, labelled}
use Rattle.spec_history.specs.declared.entry.Entry.{Entry}

-- the text of one more entry
pub labelled_more : (account : List ℕ) (es : List Entry) (e : Entry) → labelled account (es ++ e ∷ []) ≡ labelled account es ++ (account, entry_text e) ∷ []
labelled_more account es e = map-append (λ (x : Entry). (account, entry_text x)) es (e ∷ [])

-- the text of an entry is never empty
pub no_empty_text : IsNoEntryText []
no_empty_text e is = let h = is.text in cc

pub entries_more : (es : List Entry) (ts : List (List ℕ)) (e : Entry) (t : List ℕ) → AreEntriesOf es ts → IsEntryText e t → AreEntriesOf (es ++ e ∷ []) (ts ++ t ∷ [])
entries_more [] [] e t h is = (is, tt)
entries_more (x ∷ es) (y ∷ ts) e t h is = (h.0, entries_more es ts e t h.1 is)
entries_more [] (y ∷ ts) e t h is = absurd h
entries_more (x ∷ es) [] e t h is = absurd h

keepable_split : (es : List Entry) (e : Entry) → AreKeepable (es ++ e ∷ []) → AreKeepable es × IsKeepable e
keepable_split [] e k = (tt, k.0)
keepable_split (x ∷ es) e k = let rest = keepable_split es e k.1 in ((k.0, rest.0), rest.1)

-- where the texts of entries so far are read back and that of one more is, so are all
pub written_more : (es : List Entry) (e : Entry) → (AreKeepable es → AreEntriesOf es (map entry_text es)) → (IsKeepable e → IsEntryText e (entry_text e)) → AreKeepable (es ++ e ∷ []) → AreEntriesOf (es ++ e ∷ []) (map entry_text (es ++ e ∷ []))
written_more es e all one k =
    let parts = keepable_split es e k in
    subst (AreEntriesOf (es ++ e ∷ [])) (sym (map-append entry_text es (e ∷ []))) (entries_more es (map entry_text es) e (entry_text e) (all parts.0) (one parts.1))

taken : (es : List Entry) (i : ℕ) (e : Entry) → i < length es → e ≡ get_or es i e → take (i + 1) es ≡ take i es ++ e ∷ []
taken es i e there at = take_more es i e there ∙ ap (λ (q : Entry). take i es ++ q ∷ []) (sym at)

-- the step of a loop over entries: their texts so far, with that of the next
pub labelled_step : (account : List ℕ) (es : List Entry) (i : ℕ) (e : Entry) (old new : List Labelled) (text : Labelled) → i < length es → e ≡ get_or es i e
    → old ≡ labelled account (take i es) → new ≡ old ++ text ∷ [] → text ≡ (account, entry_text e) → new ≡ labelled account (take (i + 1) es)
labelled_step account es i e old new text there at so_far push is =
    push ∙ (ap (λ l. l ++ text ∷ []) so_far ∙ (ap (λ t. labelled account (take i es) ++ t ∷ []) is
    ∙ (sym (labelled_more account (take i es) e) ∙ ap (labelled account) (sym (taken es i e there at)))))

pub written_step : (es : List Entry) (i : ℕ) (e : Entry) → i < length es → e ≡ get_or es i e → (AreKeepable (take i es) → AreEntriesOf (take i es) (map entry_text (take i es))) → (IsKeepable e → IsEntryText e (entry_text e)) → AreKeepable (take (i + 1) es) → AreEntriesOf (take (i + 1) es) (map entry_text (take (i + 1) es))
written_step es i e there at all one = subst (λ (l : List Entry). AreKeepable l → AreEntriesOf l (map entry_text l)) (sym (taken es i e there at)) (written_more (take i es) e all one)
