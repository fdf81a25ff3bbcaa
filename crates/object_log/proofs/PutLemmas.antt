-- One more change: what the objects and the window are after it.
use Rattle.std.proofs.Common.{◌≡◌, ◌≤◌, ◌<◌, ◌+◌, ◌-◌, ◌==◌, ◌&&◌, ◌||◌, ℕ, zero, suc, List, [], ◌∷◌, ◌++◌, Bool, true, false, cond, Option, None, drop, fold, get_or, is_some, length, take, append-nil, append_assoc, length-append, arith, refl, sym, ap, ◌∙◌, ⊎_elim, le-leb}
use Rattle.std.specs.Prelude.{nat_le}
use Rattle.std.specs.List.{list_any, range_with_len}
use Rattle.std.proofs.lemmas.Bool.{cases_lt, eq-eqb, eqb-true, lt-leb, or_right}
use Rattle.std.proofs.lemmas.Grind.{fold-append}
use Rattle.std.proofs.lemmas.List.{drop-drop, length-drop, drop-append-le, take-append-drop}
use Rattle.std.proofs.lemmas.List.Sums.{sum_by-cons}
use Rattle.std.proofs.lemmas.List.FromFn.{length-range_with_len}
use Rattle.spec_history.specs.History.{with_id}
use Rattle.spec_history.specs.Pages.{window as window_len}
use Rattle.object_log.proofs.SlotLemmas.{unlike, unlike_above}
use Rattle.object_log.specs.Pasts.{bytes_of, fits, past_of, pasts, pasts_after, had_before}
use Rattle.spec_sizes.specs.Sizes.{window_bytes}
use Rattle.object_log.specs.Puts.{bytes_put, ids_put, is_known, may_come, latest, latest_from, latest_at}
use Rattle.object_log.specs.Slots.{object_in}
use Rattle.object_log.specs.declared.put.Put.{Put}
use Rattle.object_log.specs.declared.slots.IdSlot.{IdSlot}
use Rattle.object_log.specs.declared.window.Past.{Past}

with_id_few : (ids : List ℕ) (id : ℕ) (b : Bool) → length (cond b ids (ids ++ id ∷ [])) ≤ suc (length ids)
with_id_few ids id true = omega arith
with_id_few ids id false = omega (arith, length-append ids (id ∷ []))

module _ {T : Type 0} where
  pub latest_from-append : (before : Option T) (ps qs : List (Put T)) (id : ℕ) → latest_from before (ps ++ qs) id ≡ latest_from (latest_from before ps id) qs id
  latest_from-append before [] qs id = refl
  latest_from-append before (p ∷ ps) qs id = latest_from-append (cond (p.id == id) p.object before) ps qs id

  pub latest_more : (ps : List (Put T)) (p : Put T) (id : ℕ) → latest (ps ++ p ∷ []) id ≡ cond (p.id == id) p.object (latest ps id)
  latest_more ps p id = latest_from-append None ps (p ∷ []) id

  pasts_after_more : (done ps : List (Put T)) (p : Put T) → pasts_after done (ps ++ p ∷ []) ≡ pasts_after done ps ++ past_of (done ++ ps) p ∷ []
  pasts_after_more done [] p = ap (λ (l : List (Put T)). past_of l p ∷ []) (sym (append-nil done))
  pasts_after_more done (q ∷ ps) p =
      ap (λ l. past_of done q ∷ l) (pasts_after_more (done ++ q ∷ []) ps p ∙ ap (λ (l : List (Put T)). pasts_after (done ++ q ∷ []) ps ++ past_of l p ∷ []) (append_assoc done (q ∷ []) ps))

  pub pasts_more : (ps : List (Put T)) (p : Put T) → pasts (ps ++ p ∷ []) ≡ pasts ps ++ past_of ps p ∷ []
  pasts_more ps p = pasts_after_more [] ps p

  pub length-pasts : (done ps : List (Put T)) → length (pasts_after done ps) ≡ length ps
  length-pasts done [] = refl
  length-pasts done (p ∷ ps) = ap suc (length-pasts (done ++ p ∷ []) ps)

  pub bytes-pasts : (k : ℕ) (done ps : List (Put T)) → bytes_of (drop k (pasts_after done ps)) ≡ bytes_put (drop k ps)
  bytes-pasts zero done [] = refl
  bytes-pasts zero done (p ∷ ps) = sum_by-cons (λ (w : Past T). w.size) (past_of done p) (pasts_after (done ++ p ∷ []) ps) ∙ ap (λ n. p.size + n) (bytes-pasts zero (done ++ p ∷ []) ps) ∙ sym (sum_by-cons (λ (q : Put T). q.size) p ps)
  bytes-pasts (suc k) done [] = refl
  bytes-pasts (suc k) done (p ∷ ps) = bytes-pasts k (done ++ p ∷ []) ps

  pub ids_more : (ps : List (Put T)) (p : Put T) → ids_put (ps ++ p ∷ []) ≡ with_id (ids_put ps) p.id
  ids_more ps p = fold-append (λ ids (q : Put T). with_id ids q.id) [] ps (p ∷ [])

  -- no more ids than changes
  ids_few_from : (ps : List (Put T)) (ids : List ℕ) → length (fold (λ is (q : Put T). with_id is q.id) ids ps) ≤ length ids + length ps
  ids_few_from [] ids = omega arith
  ids_few_from (p ∷ ps) ids = omega (arith, ids_few_from ps (with_id ids p.id), with_id_few ids p.id (list_any (λ n. n == p.id) ids))

  pub ids_few : (ps : List (Put T)) → length (ids_put ps) ≤ length ps
  ids_few ps = let h = ids_few_from ps [] in omega (arith, h)

-- ---- ids that are numbers in order

in_range : (a n id : ℕ) → a ≤ id → id < a + n → list_any (λ m. m == id) (range_with_len a n) ≡ true
in_range a zero id low high = absurd (omega (arith, low, high))
in_range a (suc n) id low high = ⊎_elim
    (λ (above : a < id). or_right (a == id) (list_any (λ m. m == id) (range_with_len (a + 1) n)) (in_range (a + 1) n id (omega (arith, above)) (omega (arith, high))))
    (λ (here : id ≤ a). ap (λ b. b || list_any (λ m. m == id) (range_with_len (a + 1) n)) (eq-eqb a id (omega (arith, here, low))))
    (cases_lt a id)

pub below_range : (a n id : ℕ) → id < a → list_any (λ m. m == id) (range_with_len a n) ≡ false
below_range a zero id low = refl
below_range a (suc n) id low = ap (λ b. b || list_any (λ m. m == id) (range_with_len (a + 1) n)) (unlike_above a id low) ∙ below_range (a + 1) n id (omega (arith, low))

pub past_range : (a n id : ℕ) → a + n ≤ id → list_any (λ m. m == id) (range_with_len a n) ≡ false
past_range a zero id high = refl
past_range a (suc n) id high = ap (λ b. b || list_any (λ m. m == id) (range_with_len (a + 1) n)) (unlike a id (omega (arith, high))) ∙ past_range (a + 1) n id (omega (arith, high))

range_more : (a n : ℕ) → range_with_len a n ++ (a + n) ∷ [] ≡ range_with_len a (suc n)
range_more a zero = let e : a + 0 ≡ a = omega arith in ap (λ m. m ∷ []) e
range_more a (suc n) = let e : a + suc n ≡ a + 1 + n = omega arith in ap (λ l. a ∷ l) (ap (λ m. range_with_len (a + 1) n ++ m ∷ []) e ∙ range_more (a + 1) n)

-- the next number goes last, and one that was given stays where it is
pub numbers_more : (n id : ℕ) → 1 ≤ id → id ≤ suc n → with_id (range_with_len 1 n) id ≡ range_with_len 1 (cond (id == suc n) (suc n) n)
numbers_more n id low high = ⊎_elim
    (λ (below : id < suc n). ap (λ b. cond b (range_with_len 1 n) (range_with_len 1 n ++ id ∷ [])) (in_range 1 n id low (omega (arith, below))) ∙ ap (λ b. range_with_len 1 (cond b (suc n) n)) (sym (unlike id (suc n) below)))
    (λ (past : suc n ≤ id). let e : id ≡ suc n = omega (arith, past, high) in
    ap (λ b. cond b (range_with_len 1 n) (range_with_len 1 n ++ id ∷ [])) (past_range 1 n id (omega (arith, past)))
    ∙ ap (λ m. range_with_len 1 n ++ m ∷ []) (next e) ∙ range_more 1 n ∙ ap (λ b. range_with_len 1 (cond b (suc n) n)) (sym (eq-eqb id (suc n) e)))
    (cases_lt id (suc n))
  where
    next : id ≡ suc n → id ≡ 1 + n
    next e = omega (arith, e)

-- a change that may come next is of the next slot, or of one that has an object
pub next_slot : {T : Type 0} (ps : List (Put T)) (p : Put T) (n : ℕ) (ss : List (IdSlot T)) → ids_put ps ≡ range_with_len 1 n → object_in ss p.id ≡ latest ps p.id → may_come ps p ≡ true
    → ((p.id == suc n) || is_some (object_in ss p.id)) ≡ true
next_slot ps p n ss numbered standing next =
    ap (λ m. (p.id == suc m) || is_some (object_in ss p.id)) (sym (ap (λ l. length l) numbered ∙ length-range_with_len 1 n)) ∙ ap (λ o. (p.id == suc (length (ids_put ps))) || is_some o) standing ∙ next

module _ {T : Type 0} where
  -- what an id had behind some changes is what the first of those after them that names it took the place of, or else what it has now
  before_is : (done qs : List (Put T)) (id : ℕ) → latest done id ≡ had_before (pasts_after done qs) id (latest (done ++ qs) id)
  before_is done [] id = ap (λ (l : List (Put T)). latest l id) (sym (append-nil done))
  before_is done (q ∷ qs) id =
      by_cases (q.id == id) refl (before_is (done ++ q ∷ []) qs id ∙ ap (λ (l : List (Put T)). had_before (pasts_after (done ++ q ∷ []) qs) id (latest l id)) (append_assoc done (q ∷ []) qs))
    where
      by_cases : (b : Bool) → (q.id == id) ≡ b → latest (done ++ q ∷ []) id ≡ had_before (pasts_after (done ++ q ∷ []) qs) id (latest (done ++ q ∷ qs) id)
          → latest done id ≡ cond b (latest done q.id) (had_before (pasts_after (done ++ q ∷ []) qs) id (latest (done ++ q ∷ qs) id))
      by_cases true e rest = ap (λ n. latest done n) (sym (eqb-true q.id id e))
      by_cases false e rest = sym (latest_more done q id ∙ ap (λ b. cond b q.object (latest done id)) e) ∙ rest

  drop-pasts : (k : ℕ) (done ps : List (Put T)) → drop k (pasts_after done ps) ≡ pasts_after (done ++ take k ps) (drop k ps)
  drop-pasts zero done ps = ap (λ (l : List (Put T)). pasts_after l ps) (sym (append-nil done))
  drop-pasts (suc k) done [] = refl
  drop-pasts (suc k) done (p ∷ ps) = drop-pasts k (done ++ p ∷ []) ps ∙ ap (λ (l : List (Put T)). pasts_after l (drop k ps)) (append_assoc done (p ∷ []) (take k ps))

  -- the object at a state, from the changes behind it as they can be undone
  pub told_at : (ps : List (Put T)) (k id : ℕ) → latest_at ps k id ≡ had_before (drop k (pasts ps)) id (latest ps id)
  told_at ps k id =
      before_is (take k ps) (drop k ps) id ∙ ap (λ (l : List (Put T)). had_before (pasts_after (take k ps) (drop k ps)) id (latest l id)) (take-append-drop k ps)
      ∙ ap (λ (l : List (Past T)). had_before l id (latest ps id)) (sym (drop-pasts k [] ps))

  pub told_from : (ps : List (Put T)) (first k id : ℕ) (window : List (Past T)) → first ≤ k → window ≡ drop first (pasts ps) → had_before (drop (k - first) window) id (latest ps id) ≡ latest_at ps k id
  told_from ps first k id window low kept =
      let whole : first + (k - first) ≡ k = omega (arith, low) in
      ap (λ (l : List (Past T)). had_before l id (latest ps id)) (ap (λ l. drop (k - first) l) kept ∙ drop-drop (k - first) first (pasts ps) ∙ ap (λ m. drop m (pasts ps)) whole) ∙ sym (told_at ps k id)

  -- one change after the other
  pub undone_at : (ws : List (Past T)) (place : ℕ) (d : Past T) (id : ℕ) (now : Option T) → place < length ws
      → had_before (drop place ws) id now ≡ cond ((get_or ws place d).id == id) (get_or ws place d).before (had_before (drop (place + 1) ws) id now)
  undone_at [] place d id now h = absurd (omega (arith, h))
  undone_at (w ∷ ws) zero d id now h = refl
  undone_at (w ∷ ws) (suc place) d id now h = let e : suc place + 1 ≡ suc (place + 1) = omega arith in rw e (undone_at ws place d id now (omega (arith, h)))

module _ {T : Type 0} (ps : List (Put T)) (p : Put T) (first : ℕ) (window : List (Past T)) (within : first ≤ length ps) (kept : window ≡ drop first (pasts ps)) where
  -- the window with one more change behind the others
  pub window_more : window ++ past_of ps p ∷ [] ≡ drop first (pasts (ps ++ p ∷ []))
  window_more = ap (λ l. l ++ past_of ps p ∷ []) kept
      ∙ sym (ap (λ l. drop first l) (pasts_more ps p) ∙ drop-append-le first (pasts ps) (past_of ps p ∷ []) (omega (arith, within, length-pasts [] ps)))

  -- the states that are answered from are those from the first on whose changes fit
  pub known_more : (gone : ℕ) → ((d : ℕ) → d ≤ length window + 1 → nat_le gone d ≡ fits (drop d (window ++ past_of ps p ∷ []))) → (k : ℕ) → first ≤ k
      → (nat_le (first + gone) k && nat_le k (length (ps ++ p ∷ []))) ≡ is_known (ps ++ p ∷ []) k
  known_more gone least k low = ⊎_elim
      (λ (past : length (ps ++ p ∷ []) < k). beyond (lt-leb k (length (ps ++ p ∷ [])) past))
      (λ (reached : k ≤ length (ps ++ p ∷ [])). inside reached)
      (cases_lt (length (ps ++ p ∷ [])) k)
    where
      beyond : nat_le k (length (ps ++ p ∷ [])) ≡ false → (nat_le (first + gone) k && nat_le k (length (ps ++ p ∷ []))) ≡ is_known (ps ++ p ∷ []) k
      beyond e = rw e (neither (nat_le (first + gone) k))
        where
          neither : (b : Bool) → (b && false) ≡ false
          neither true = refl
          neither false = refl

      both : (b : Bool) → (b && true) ≡ b
      both true = refl
      both false = refl

      inside : k ≤ length (ps ++ p ∷ []) → (nat_le (first + gone) k && nat_le k (length (ps ++ p ∷ []))) ≡ is_known (ps ++ p ∷ []) k
      inside reached =
          let n = length (ps ++ p ∷ []) in
          let d = k - first in
          let whole : first + d ≡ k = omega (arith, low) in
          let size = length-pasts [] (ps ++ p ∷ []) in
          let all : drop d (window ++ past_of ps p ∷ []) ≡ drop k (pasts (ps ++ p ∷ [])) = ap (λ l. drop d l) window_more ∙ drop-drop d first (pasts (ps ++ p ∷ [])) ∙ ap (λ m. drop m (pasts (ps ++ p ∷ []))) whole in
          let few : length (drop k (pasts (ps ++ p ∷ []))) ≡ n - k = length-drop k (pasts (ps ++ p ∷ [])) ∙ ap (λ m. m - k) size in
          let up_to : d ≤ length window + 1 = omega (arith, reached, low, within, ap (λ (l : List (Past T)). length l) kept, length-drop first (pasts ps), length-pasts [] ps, length-append ps (p ∷ [])) in
          rw (le-leb k n reached) (both (nat_le (first + gone) k) ∙ shifted ∙ least d up_to ∙ ap (λ (l : List (Past T)). fits l) all ∙ parts few (bytes-pasts k [] (ps ++ p ∷ [])))
        where
          shifted : nat_le (first + gone) k ≡ nat_le gone (k - first)
          shifted = ⊎_elim
              (λ (less : k - first < gone). lt-leb (first + gone) k (omega (arith, less, low)) ∙ sym (lt-leb gone (k - first) less))
              (λ (more : gone ≤ k - first). le-leb (first + gone) k (omega (arith, more, low)) ∙ sym (le-leb gone (k - first) more))
              (cases_lt (k - first) gone)

          parts : length (drop k (pasts (ps ++ p ∷ []))) ≡ length (ps ++ p ∷ []) - k → bytes_of (drop k (pasts (ps ++ p ∷ []))) ≡ bytes_put (drop k (ps ++ p ∷ []))
              → fits (drop k (pasts (ps ++ p ∷ []))) ≡ (nat_le (length (ps ++ p ∷ []) - k) window_len && nat_le (bytes_put (drop k (ps ++ p ∷ []))) window_bytes)
          parts few bytes = rw (few, bytes) refl
