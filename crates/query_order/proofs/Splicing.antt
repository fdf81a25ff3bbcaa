-- Splices put in order, and a change leads from an old result to a new one.
use Rattle.std.proofs.Common.{◌≡◌, ℕ, ◌+◌, ◌<◌, ◌≤◌, ◌==◌, List, [], ◌∷◌, ◌++◌, Bool, true, false, cond, not, ◌&&◌, ◌||◌, length, filter, min, insert, refl, sym, ap, ◌∙◌, arith, append_assoc, append-nil, length-append}
use Rattle.std.proofs.Common.{eq-eqb}
use Rattle.std.proofs.lemmas.List.Edits.{insert-append_left, insert_end}
use Rattle.std.proofs.lemmas.Bool.{or_right}
use Rattle.spec_queries.specs.declared.delta.Place.{Place}
use Rattle.spec_history.proofs.IdLemmas.{is_in-filter}
use Rattle.spec_history.specs.Pages.{is_in}
use Rattle.spec_queries.specs.QueryChanges.{indexed, with_places}
use Rattle.spec_queries.specs.QueryChangesLead.{Lead, StandAlike}

-- what goes in before all that is left
put_front : (ids rest : List ℕ) (index id : ℕ) → (0 < length rest → index ≤ length ids) → insert (ids ++ rest) (min index (length (ids ++ rest))) id ≡ insert ids (min index (length ids)) id ++ rest
put_front ids [] index id h =
    let e : min index (length (ids ++ [])) ≡ min index (length ids) = ap (λ l. min index (length l)) (append-nil ids) in
    rw e (insert-append_left ids [] (min index (length ids)) id (omega arith))
put_front ids (r ∷ rest) index id h =
    let low : index ≤ length ids = h (omega arith) in
    let e : min index (length (ids ++ r ∷ rest)) ≡ min index (length ids) = let l = length-append ids (r ∷ rest) in omega (arith, l, low) in
    rw e (insert-append_left ids (r ∷ rest) (min index (length ids)) id (omega arith))

-- so one place after the other can be put in before what is left
pub put_step : (ids rest : List ℕ) (p : Place) (ps : List Place) → (0 < length rest → p.index ≤ length ids) → with_places (ids ++ rest) (p ∷ ps) ≡ with_places (insert ids (min p.index (length ids)) p.id ++ rest) ps
put_step ids rest p ps h = ap (λ l. with_places l ps) (put_front ids rest p.index p.id h)

pub kept_same : (xs ys ids : List ℕ) → is_in xs ≡ is_in ys → filter (λ id. not (is_in xs id)) ids ≡ filter (λ id. not (is_in ys id)) ids
kept_same xs ys ids e = ap (λ h. filter (λ id. not (h id)) ids) e

-- a change leads from the old result to the new one

-- what is left without those that pass, taken from a longer list, are those that don't pass
pub left_out : (test : ℕ → Bool) (all ids : List ℕ) → ((id : ℕ) → is_in ids id ≡ true → is_in all id ≡ true) → filter (λ id. not (is_in (filter test all) id)) ids ≡ filter (λ id. not (test id)) ids
left_out test all [] h = refl
left_out test all (x ∷ xs) h =
    let there : is_in all x ≡ true = h x (ap (λ t. t || is_in xs x) (eq-eqb x x refl)) in
    let same : is_in (filter test all) x ≡ test x = is_in-filter test all x ∙ ap (λ t. t && test x) there in
    ap (λ t. cond (not t) (x ∷ filter (λ id. not (is_in (filter test all) id)) xs) (filter (λ id. not (is_in (filter test all) id)) xs)) same
    ∙ ap (λ l. cond (not (test x)) (x ∷ l) l) (left_out test all xs (λ id p. h id (or_right (x == id) (is_in xs id) p)))

-- putting those that pass back in at their indexes gives the whole list
pub put_back : (test : ℕ → Bool) (rest front : List ℕ) → with_places (front ++ filter (λ id. not (test id)) rest) (indexed test (length front) rest) ≡ front ++ rest
put_back test [] front = refl
put_back test (id ∷ rest) front =
    let more = front ++ id ∷ [] in
    let long : length more ≡ length front + 1 = length-append front (id ∷ []) in
    let kept = filter (λ id. not (test id)) rest in
    let next : with_places (more ++ kept) (indexed test (length front + 1) rest) ≡ more ++ rest = ap (λ n. with_places (more ++ kept) (indexed test n rest)) (sym long) ∙ put_back test rest more in
    by_test (test id) test id rest front next
  where
    by_test : (b : Bool) (test : ℕ → Bool) (id : ℕ) (rest front : List ℕ)
        → with_places ((front ++ id ∷ []) ++ filter (λ id. not (test id)) rest) (indexed test (length front + 1) rest) ≡ (front ++ id ∷ []) ++ rest
        → with_places (front ++ cond (not b) (id ∷ filter (λ id. not (test id)) rest) (filter (λ id. not (test id)) rest)) (cond b (record { id = id; index = length front } ∷ indexed test (length front + 1) rest) (indexed test (length front + 1) rest)) ≡ front ++ id ∷ rest
    by_test true test id rest front h =
        let kept = filter (λ id. not (test id)) rest in
        let ps = indexed test (length front + 1) rest in
        let at_end : insert front (min (length front) (length front)) id ≡ front ++ id ∷ [] = let m : min (length front) (length front) ≡ length front = omega arith in ap (λ n. insert front n id) m ∙ insert_end front id in
        put_step front kept (record { id = id; index = length front }) ps (λ _. omega arith) ∙ ap (λ l. with_places (l ++ kept) ps) at_end ∙ h ∙ append_assoc front (id ∷ []) rest
    by_test false test id rest front h =
        ap (λ l. with_places l (indexed test (length front + 1) rest)) (sym (append_assoc front (id ∷ []) (filter (λ id. not (test id)) rest))) ∙ h ∙ append_assoc front (id ∷ []) rest

pub change_leads : (old new touched : List ℕ) → StandAlike old new touched → Lead old new touched
change_leads old new touched same = ap (λ l. with_places l (indexed (is_in touched) 0 new)) (left_out (is_in touched) old old (λ id h. h) ∙ same) ∙ put_back (is_in touched) new []
