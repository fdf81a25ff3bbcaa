-- The texts of one account among those of all.
use Rattle.std.proofs.Common.{◌≡◌, ◌∙◌, ◌++◌, ◌∷◌, [], ℕ, List, Bool, true, false, cond, ap, filter, map, refl}
use Rattle.std.proofs.lemmas.Slice.Eq.{bytes_eq-Decides}
use Rattle.std.specs.Str.{bytes_eq}
use Rattle.journal_keeper.specs.EntryText.{entry_text}
use Rattle.journal_keeper.specs.Journals.{AreEntriesOf, Labelled, labelled, texts_of}
use Rattle.spec_history.specs.declared.entry.Entry.{Entry}

pub bytes_same : (a : List ℕ) → bytes_eq a a ≡ true
bytes_same a = (bytes_eq-Decides a a).1 refl

abbrev is_of : List ℕ → Labelled → Bool
is_of id t = bytes_eq t.0 id

-- those of the account itself
pub texts_own : (own id : List ℕ) (es : List Entry) → bytes_eq own id ≡ true → texts_of id (labelled own es) ≡ map entry_text es
texts_own own id [] is = refl
texts_own own id (e ∷ es) is =
    ap (λ (b : Bool). map (λ (t : Labelled). t.1) (cond b ((own, entry_text e) ∷ filter (is_of id) (labelled own es)) (filter (is_of id) (labelled own es)))) is
    ∙ ap (λ (ts : List (List ℕ)). entry_text e ∷ ts) (texts_own own id es is)

-- none of another's
pub texts_other : (own id : List ℕ) (es : List Entry) → bytes_eq own id ≡ false → texts_of id (labelled own es) ≡ []
texts_other own id [] is = refl
texts_other own id (e ∷ es) is =
    ap (λ (b : Bool). map (λ (t : Labelled). t.1) (cond b ((own, entry_text e) ∷ filter (is_of id) (labelled own es)) (filter (is_of id) (labelled own es)))) is
    ∙ texts_other own id es is

-- texts of entries behind those of others
pub entries_join : (es fs : List Entry) (ts us : List (List ℕ)) → AreEntriesOf es ts → AreEntriesOf fs us → AreEntriesOf (es ++ fs) (ts ++ us)
entries_join [] fs [] us a b = b
entries_join (e ∷ es) fs (t ∷ ts) us a b = (a.0, entries_join es fs ts us a.1 b)
entries_join [] fs (t ∷ ts) us a b = absurd a
entries_join (e ∷ es) fs [] us a b = absurd a
