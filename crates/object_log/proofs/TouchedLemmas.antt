-- The ids that changes name, and those that have an object, in order of creation.
use Rattle.std.proofs.Common.{◌≡◌, ◌≤◌, ◌<◌, ◌+◌, ◌==◌, ◌||◌, ℕ, suc, List, [], ◌∷◌, Bool, true, false, cond, None, drop, filter, fold, is_some, length, map, slice_index, take, arith, refl, sym, ap, ◌∙◌, ⊎_elim}
use Rattle.std.specs.List.{range_with_len}
use Rattle.std.specs.List.Sorted.{IsStrictlyIncreasing}
use Rattle.std.proofs.lemmas.Bool.{and_parts, cases_lt, eqb-true, false≢true, ltb-true, or_parts}
use Rattle.std.proofs.lemmas.List.Folds.{list_any-append}
use Rattle.std.proofs.lemmas.List.{take-append-drop}
use Rattle.std.proofs.lemmas.List.Elements.{filter_agree}
use Rattle.std.specs.Prelude.{nat_lt}
use Rattle.spec_history.specs.History.{with_id}
use Rattle.spec_history.specs.Pages.{Mention, ids_of, is_in, is_touched}
use Rattle.object_log.proofs.IdLemmas.{ids_folded}
use Rattle.object_log.proofs.MentionLemmas.{is_named}
use Rattle.object_log.proofs.NumberLemmas.{Rises, first_in, rises, rising_is_filter}
use Rattle.object_log.proofs.PutLemmas.{below_range, past_range}
use Rattle.object_log.proofs.SizeLemmas.{is_in-ids_of}
use Rattle.object_log.proofs.SlotLemmas.{absent_above, absent_below}
use Rattle.object_log.specs.Puts.{ids_put, latest, ids_with_object, said}
use Rattle.object_log.specs.Slots.{object_in, rises as slots_rise}
use Rattle.object_log.specs.declared.put.Put.{Put}
use Rattle.object_log.specs.declared.slots.IdSlot.{IdSlot}

pub in_ids : (ms : List Mention) (q : ℕ) → is_in (map (λ m. m.id) ms) q ≡ is_named ms q
in_ids [] q = refl
in_ids (m ∷ ms) q = ap (λ b. (m.id == q) || b) (in_ids ms q)

-- what is named between two states is named
pub touched_named : (ms : List Mention) (k j q : ℕ) → is_named ms q ≡ false → is_touched ms k j q ≡ false
touched_named ms k j q h =
    let first = or_parts (is_named (take j ms) q) (is_named (drop j ms) q) (sym (list_any-append (λ m. m.id == q) (take j ms) (drop j ms)) ∙ ap (λ l. is_named l q) (take-append-drop j ms) ∙ h) in
    let last = or_parts (is_named (take k (take j ms)) q) (is_named (drop k (take j ms)) q) (sym (list_any-append (λ m. m.id == q) (take k (take j ms)) (drop k (take j ms))) ∙ ap (λ l. is_named l q) (take-append-drop k (take j ms)) ∙ first.0) in
    last.1

module _ {T : Type 0} where
  ids_folded_from : (ps : List (Put T)) (ids : List ℕ) → fold (λ is (m : Mention). with_id is m.id) ids (said ps) ≡ fold (λ is (p : Put T). with_id is p.id) ids ps
  ids_folded_from [] ids = refl
  ids_folded_from (p ∷ ps) ids = ids_folded_from ps (with_id ids p.id)

  pub ids_said : (ps : List (Put T)) → ids_of (said ps) ≡ ids_put ps
  ids_said ps = ids_folded (said ps) ∙ ids_folded_from ps []

  -- the numbers that are named between two states, sorted and each once
  pub touched_are : (ps : List (Put T)) (n k j : ℕ) (named ids : List ℕ) → ids_put ps ≡ range_with_len 1 n → named ≡ map (λ m. m.id) (drop k (take j (said ps)))
      → IsStrictlyIncreasing ids → ((q : ℕ) → is_in ids q ≡ is_in named q) → ids ≡ filter (is_touched (said ps) k j) (ids_of (said ps))
  touched_are ps n k j named ids numbered is up same =
      rising_is_filter n 1 ids (is_touched (said ps) k j) (rises 1 ids up low) (λ r h. here r) (λ r past. absent r (past_range 1 n r past))
      ∙ ap (λ l. filter (is_touched (said ps) k j) l) (sym (ids_said ps ∙ numbered))
    where
      here : (r : ℕ) → is_in ids r ≡ is_touched (said ps) k j r
      here r = same r ∙ ap (λ l. is_in l r) is ∙ in_ids (drop k (take j (said ps))) r

      absent : (r : ℕ) → is_in (range_with_len 1 n) r ≡ false → is_touched (said ps) k j r ≡ false
      absent r h = touched_named (said ps) k j r (sym (is_in-ids_of (said ps) r) ∙ ap (λ l. is_in l r) (ids_said ps ∙ numbered) ∙ h)

      low : 0 < length ids → 1 ≤ slice_index ids 0
      low h = ⊎_elim
          (λ (above : 0 < slice_index ids 0). omega (arith, above))
          (λ (none : slice_index ids 0 ≤ 0). absurd (false≢true (sym (here (slice_index ids 0) ∙ absent (slice_index ids 0) (below_range 1 n (slice_index ids 0) (omega (arith, none)))) ∙ first_in ids h)))
          (cases_lt 0 (slice_index ids 0))

  -- ---- the ids that have an object

  live_rise : (low high : ℕ) (ss : List (IdSlot T)) → slots_rise low high ss ≡ true → Rises (low + 1) (map (λ s. s.id) (filter (λ s. is_some s.object) ss))
  live_rise low high [] up = tt
  live_rise low high (s ∷ ss) up =
      let parts = and_parts (nat_lt low s.id) (slots_rise s.id high ss) up in
      keep (is_some s.object) (ltb-true low s.id parts.0) (live_rise s.id high ss parts.1)
    where
      lower : (a b : ℕ) (rs : List ℕ) → a ≤ b → Rises b rs → Rises a rs
      lower a b [] h up = tt
      lower a b (r ∷ rs) h up = (omega (arith, h, up.0), up.1)

      keep : (b : Bool) → low < s.id → Rises (s.id + 1) (map (λ (r : IdSlot T). r.id) (filter (λ r. is_some r.object) ss))
          → Rises (low + 1) (map (λ (r : IdSlot T). r.id) (cond b (s ∷ filter (λ r. is_some r.object) ss) (filter (λ r. is_some r.object) ss)))
      keep true above rest = (omega (arith, above), rest)
      keep false above rest = lower (low + 1) (s.id + 1) (map (λ (r : IdSlot T). r.id) (filter (λ r. is_some r.object) ss)) (omega (arith, above)) rest

  live_in : (low high q : ℕ) (ss : List (IdSlot T)) → slots_rise low high ss ≡ true → is_in (map (λ s. s.id) (filter (λ s. is_some s.object) ss)) q ≡ is_some (object_in ss q)
  live_in low high q [] up = refl
  live_in low high q (s ∷ ss) up =
      let parts = and_parts (nat_lt low s.id) (slots_rise s.id high ss) up in
      by_cases (is_some s.object) refl (s.id == q) (live_in s.id high q ss parts.1) (λ same. absent_below s.id high q ss parts.1 (let e = eqb-true s.id q same in omega (arith, e)))
    where
      by_cases : (b : Bool) → is_some s.object ≡ b → (same : Bool) → is_in (map (λ (r : IdSlot T). r.id) (filter (λ r. is_some r.object) ss)) q ≡ is_some (object_in ss q) → ((s.id == q) ≡ true → object_in ss q ≡ None)
          → is_in (map (λ (r : IdSlot T). r.id) (cond b (s ∷ filter (λ r. is_some r.object) ss) (filter (λ r. is_some r.object) ss))) q ≡ is_some (cond (s.id == q) s.object (object_in ss q))
      by_cases true e same rest absent = with_object (s.id == q) e rest
        where
          with_object : (b : Bool) → is_some s.object ≡ true → is_in (map (λ (r : IdSlot T). r.id) (filter (λ r. is_some r.object) ss)) q ≡ is_some (object_in ss q)
              → (b || is_in (map (λ (r : IdSlot T). r.id) (filter (λ r. is_some r.object) ss)) q) ≡ is_some (cond b s.object (object_in ss q))
          with_object true e rest = sym e
          with_object false e rest = rest
      by_cases false e same rest absent = without (s.id == q) refl e rest
        where
          without : (b : Bool) → (s.id == q) ≡ b → is_some s.object ≡ false → is_in (map (λ (r : IdSlot T). r.id) (filter (λ r. is_some r.object) ss)) q ≡ is_some (object_in ss q)
              → is_in (map (λ (r : IdSlot T). r.id) (filter (λ r. is_some r.object) ss)) q ≡ is_some (cond b s.object (object_in ss q))
          without true at e rest = rest ∙ ap is_some (absent at) ∙ sym e
          without false at e rest = rest

  pub live_slots : (ps : List (Put T)) (n : ℕ) (ss : List (IdSlot T)) → slots_rise 0 (suc n) ss ≡ true → ids_put ps ≡ range_with_len 1 n → ((id : ℕ) → object_in ss id ≡ latest ps id)
      → map (λ s. s.id) (filter (λ s. is_some s.object) ss) ≡ ids_with_object ps
  live_slots ps n ss up numbered standing =
      rising_is_filter n 1 (map (λ s. s.id) (filter (λ s. is_some s.object) ss)) (λ id. is_some (object_in ss id)) (live_rise 0 (suc n) ss up) (λ r h. live_in 0 (suc n) r ss up)
      (λ r past. ap is_some (absent_above 0 (suc n) r ss up (omega (arith, past))))
      ∙ filter_agree (λ id. is_some (object_in ss id)) (λ id. is_some (latest ps id)) (λ id. ap is_some (standing id)) (range_with_len 1 n)
      ∙ ap (λ l. filter (λ id. is_some (latest ps id)) l) (sym numbered)
