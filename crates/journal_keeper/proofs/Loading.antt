-- The entries of an account, text by text.
use Rattle.std.proofs.Common.{◌≡◌, ◌∙◌, ◌++◌, ◌+◌, ◌<◌, ℕ, List, [], ◌∷◌, Bool, true, false, cond, filter, length, map, refl, sym, ap, subst, append_assoc, append-nil, get_or, take, drop}
use Rattle.std.proofs.lemmas.List.{map-append, take_more, take-append-drop}
use Rattle.std.proofs.lemmas.List.Elements.{filter-append}
use Rattle.std.specs.Str.{bytes_eq}
use Rattle.journal_keeper.proofs.ManyTexts.{entries_more}
use Rattle.journal_keeper.specs.EntryText.{IsEntryText, IsNoEntryText}
use Rattle.journal_keeper.specs.Journals.{AreEntriesOf, IsFirstDamaged, Labelled, texts_of}
use Rattle.spec_history.specs.declared.entry.Entry.{Entry}

abbrev is_of : List ℕ → Labelled → Bool
is_of account t = bytes_eq t.0 account

abbrev text_in : Labelled → List ℕ
text_in t = t.1

one_of : (b : Bool) (t : Labelled) → map text_in (cond b (t ∷ []) []) ≡ cond b (t.1 ∷ []) []
one_of true t = refl
one_of false t = refl

-- the texts of an account among some and one more
texts_more : (account : List ℕ) (xs : List Labelled) (t : Labelled) → texts_of account (xs ++ t ∷ []) ≡ texts_of account xs ++ cond (bytes_eq t.0 account) (t.1 ∷ []) []
texts_more account xs t =
    ap (map text_in) (filter-append (is_of account) xs (t ∷ []))
    ∙ (map-append text_in (filter (is_of account) xs) (filter (is_of account) (t ∷ []))
    ∙ ap (λ ts. texts_of account xs ++ ts) (one_of (bytes_eq t.0 account) t))

pub texts-append : (account : List ℕ) (xs ys : List Labelled) → texts_of account (xs ++ ys) ≡ texts_of account xs ++ texts_of account ys
texts-append account xs ys =
    ap (map text_in) (filter-append (is_of account) xs ys)
    ∙ map-append text_in (filter (is_of account) xs) (filter (is_of account) ys)

-- behind texts of entries the first that is none's is damaged
damaged_next : (es : List Entry) (ts us : List (List ℕ)) (t : List ℕ) → AreEntriesOf es ts → IsNoEntryText t → IsFirstDamaged (ts ++ t ∷ us) (length es) t
damaged_next [] [] us t h no_entry = (refl, no_entry)
damaged_next (x ∷ es) (y ∷ ts) us t h no_entry = ((x, h.0), damaged_next es ts us t h.1 no_entry)
damaged_next [] (y ∷ ts) us t h no_entry = absurd h
damaged_next (x ∷ es) [] us t h no_entry = absurd h

-- the texts of an account among the first
abbrev texts_to : List ℕ → List Labelled → ℕ → List (List ℕ)
texts_to a xs i = texts_of a (take i xs)

step : (a : List ℕ) (xs : List Labelled) (i : ℕ) (t : Labelled) (b : Bool) → i < length xs → t ≡ get_or xs i t → bytes_eq t.0 a ≡ b → texts_to a xs (i + 1) ≡ texts_to a xs i ++ cond b (t.1 ∷ []) []
step a xs i t b there at is =
    ap (texts_of a) (take_more xs i t there ∙ ap (λ (q : Labelled). take i xs ++ q ∷ []) (sym at))
    ∙ (texts_more a (take i xs) t ∙ ap (λ b. texts_to a xs i ++ cond b (t.1 ∷ []) []) is)

-- a text of the account, which is an entry's
pub step_own : (a : List ℕ) (xs : List Labelled) (i : ℕ) (t : Labelled) (es es' : List Entry) (e : Entry) → i < length xs → t ≡ get_or xs i t → bytes_eq t.0 a ≡ true
    → AreEntriesOf es (texts_to a xs i) → IsEntryText e t.1 → es' ≡ es ++ e ∷ [] → AreEntriesOf es' (texts_to a xs (i + 1))
step_own a xs i t es es' e there at own so_far is push =
    subst (AreEntriesOf es') (sym (step a xs i t true there at own))
    (subst (λ (l : List Entry). AreEntriesOf l (texts_to a xs i ++ t.1 ∷ [])) (sym push) (entries_more es (texts_to a xs i) e t.1 so_far is))

-- a text of another
pub step_other : (a : List ℕ) (xs : List Labelled) (i : ℕ) (t : Labelled) (es : List Entry) → i < length xs → t ≡ get_or xs i t → bytes_eq t.0 a ≡ false → AreEntriesOf es (texts_to a xs i) → AreEntriesOf es (texts_to a xs (i + 1))
step_other a xs i t es there at other so_far = subst (AreEntriesOf es) (sym (step a xs i t false there at other ∙ append-nil (texts_to a xs i))) so_far

-- a text of the account, which is no entry's
pub damaged_here : (a : List ℕ) (xs : List Labelled) (i : ℕ) (t : Labelled) (es : List Entry) (place : ℕ) (text : List ℕ) → i < length xs → t ≡ get_or xs i t → bytes_eq t.0 a ≡ true
    → AreEntriesOf es (texts_to a xs i) → IsNoEntryText t.1 → place ≡ length es → text ≡ t.1 → IsFirstDamaged (texts_of a xs) place text
damaged_here a xs i t es place text there at own so_far no_entry place_is text_is =
    let us : List (List ℕ) = texts_of a (drop (i + 1) xs) in
    let ts : List (List ℕ) = texts_to a xs i in
    let all : texts_of a xs ≡ ts ++ t.1 ∷ us =
    ap (texts_of a) (sym (take-append-drop (i + 1) xs))
    ∙ (texts-append a (take (i + 1) xs) (drop (i + 1) xs)
    ∙ (ap (λ l. l ++ us) (step a xs i t true there at own) ∙ append_assoc ts (t.1 ∷ []) us)) in
    let found = damaged_next es ts us t.1 so_far no_entry in
    subst (λ (l : List (List ℕ)). IsFirstDamaged l place text) (sym all) (subst (λ (n : ℕ). IsFirstDamaged (ts ++ t.1 ∷ us) n text) (sym place_is)
    (subst (λ (u : List ℕ). IsFirstDamaged (ts ++ t.1 ∷ us) (length es) u) (sym text_is) found))
