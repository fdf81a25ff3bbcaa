-- Entries of one author, their authors and their turns, where entries are added.
use Rattle.std.proofs.Common.{◌≡◌, ◌≢◌, ℕ, ◌<◌, ◌≤◌, ◌==◌, List, [], ◌∷◌, ◌++◌, sym, refl, ap, ◌∙◌, arith, eq-eqb, ne_eqb}
use Rattle.std.proofs.lemmas.List.Elements.{filter-append}
use Rattle.spec_history.specs.Signed.{written_by}
use Rattle.spec_history.specs.Signed.{AreSigned}
use Rattle.spec_history.specs.declared.entry.Entry.{Entry}
use Rattle.account_lock.specs.HistoryRule.{AuthorsBelow, TurnsUpTo, TurnsFrom, TurnsRise}

pub written_by-append : (a : ℕ) (xs ys : List Entry) → written_by a (xs ++ ys) ≡ written_by a xs ++ written_by a ys
written_by-append a xs ys = filter-append (λ e. e.author == a) xs ys

pub written_by-own : (a t : ℕ) (xs : List Entry) → AreSigned a t xs → written_by a xs ≡ xs
written_by-own a t [] h = refl
written_by-own a t (e ∷ es) h = rw (eq-eqb e.author a h.0) (ap (λ (l : List Entry). e ∷ l) (written_by-own a t es h.2))

pub written_by-other : (a b t : ℕ) (xs : List Entry) → b ≢ a → AreSigned a t xs → written_by b xs ≡ []
written_by-other a b t [] ne h = refl
written_by-other a b t (e ∷ es) ne h = rw (ne_eqb e.author b (λ is. ne (sym is ∙ h.0))) (written_by-other a b t es ne h.2)

pub written_by-below : (k : ℕ) (xs : List Entry) → AuthorsBelow k xs → written_by k xs ≡ []
written_by-below k [] h = refl
written_by-below k (e ∷ es) h = let low = h.0 in rw (ne_eqb e.author k (λ is. absurd (omega arith))) (written_by-below k es h.1)

pub AuthorsBelow-append : (k a t : ℕ) (xs ys : List Entry) → AuthorsBelow k xs → a < k → AreSigned a t ys → AuthorsBelow k (xs ++ ys)
AuthorsBelow-append k a t [] [] h less w = tt
AuthorsBelow-append k a t [] (y ∷ ys) h less w = let e = w.0 in (omega arith, AuthorsBelow-append k a t [] ys h less w.2)
AuthorsBelow-append k a t (x ∷ xs) ys h less w = (h.0, AuthorsBelow-append k a t xs ys h.1 less w)

pub AuthorsBelow-more : (j k : ℕ) (xs : List Entry) → j ≤ k → AuthorsBelow j xs → AuthorsBelow k xs
AuthorsBelow-more j k [] le h = tt
AuthorsBelow-more j k (x ∷ xs) le h = let a = h.0 in (omega arith, AuthorsBelow-more j k xs le h.1)

pub TurnsUpTo-more : (j k : ℕ) (xs : List Entry) → j ≤ k → TurnsUpTo j xs → TurnsUpTo k xs
TurnsUpTo-more j k [] le h = tt
TurnsUpTo-more j k (x ∷ xs) le h = let a = h.0 in (omega arith, TurnsUpTo-more j k xs le h.1)

pub TurnsUpTo-append : (a t : ℕ) (xs ys : List Entry) → TurnsUpTo t xs → AreSigned a t ys → TurnsUpTo t (xs ++ ys)
TurnsUpTo-append a t [] [] h w = tt
TurnsUpTo-append a t [] (y ∷ ys) h w = let e = w.1 in (omega arith, TurnsUpTo-append a t [] ys h w.2)
TurnsUpTo-append a t (x ∷ xs) ys h w = (h.0, TurnsUpTo-append a t xs ys h.1 w)

TurnsFrom-append : (a t k : ℕ) (xs ys : List Entry) → TurnsFrom k xs → k ≤ t → AreSigned a t ys → TurnsFrom k (xs ++ ys)
TurnsFrom-append a t k [] [] h le w = tt
TurnsFrom-append a t k [] (y ∷ ys) h le w = let e = w.1 in (omega arith, TurnsFrom-append a t k [] ys h le w.2)
TurnsFrom-append a t k (x ∷ xs) ys h le w = (h.0, TurnsFrom-append a t k xs ys h.1 le w)

TurnsRise-own : (a t : ℕ) (ys : List Entry) → AreSigned a t ys → TurnsRise ys
TurnsRise-own a t [] w = tt
TurnsRise-own a t (y ∷ ys) w = let e = w.1 in (TurnsFrom-append a t y.turn [] ys tt (omega arith) w.2, TurnsRise-own a t ys w.2)

pub TurnsRise-append : (a t : ℕ) (xs ys : List Entry) → TurnsRise xs → TurnsUpTo t xs → AreSigned a t ys → TurnsRise (xs ++ ys)
TurnsRise-append a t [] ys h u w = TurnsRise-own a t ys w
TurnsRise-append a t (x ∷ xs) ys h u w = (TurnsFrom-append a t x.turn xs ys h.0 u.0 w, TurnsRise-append a t xs ys h.1 u.1 w)
