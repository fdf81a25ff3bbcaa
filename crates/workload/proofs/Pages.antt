-- One page after the other.
use Rattle.std.proofs.Common.{◌≡◌, ◌≤◌, ◌<◌, ◌+◌, ◌-◌, ◌*◌, ◌^◌, ℕ, ℤ, pos, List, [], ◌∷◌, Some, None, inl, inr, length, map, arith, refl, sym, ap, ◌∙◌, subst}
use Rattle.std.specs.Prelude.{sum}
use Rattle.std.proofs.lemmas.List.Sums.{sum_by-cons}
use Rattle.spec_calls.specs.declared.call.Call.{Call}
use Rattle.spec_calls.specs.declared.call.Reply.{Reply}
use Rattle.spec_history.specs.Base.{Base}
use Rattle.spec_history.specs.declared.entry.Entry.{Entry}
use Rattle.spec_history.specs.declared.stamp.Stamp.{Stamp}
use Rattle.workload.specs.Counts.{count_of_ids, next_page_state, state_number}
use Rattle.workload.specs.Generated.{page_call}
use Rattle.workload.specs.Work.{ArePages, PagesLead}

module _ (answer : Base → List Entry → Call → ℤ → Reply) (added : Base → List Entry → Call → Stamp → List Entry) where
  -- these are so many ids on pages from a state on
  abbrev pub Counts : Base → List Entry → List ℕ → ℕ → Type 0
  Counts base h since n = (pages : List Reply) × ArePages answer added base h since pages × (n ≡ sum (map count_of_ids pages))

  module _ (lead : PagesLead answer added) (base : Base) (h h' : List Entry) (since : List ℕ) where
    abbrev reply : Reply
    reply = answer base h (page_call since) (pos 0)

    pub falls : (state : List ℕ) → length h ≤ 2 ^ 40 → next_page_state reply ≡ Some state → h' ≡ h → length h' - state_number state < length h - state_number since
    falls state few more same =
        let on = lead.gets_on base h since state few more in
        let low = on.0 in
        let high = on.1 in
        let count : length h' ≡ length h = ap length same in
        omega (arith, low, high, count)

    pub few_more : (state : List ℕ) → length h ≤ 2 ^ 40 → next_page_state reply ≡ Some state → h' ≡ h → (ids rest : ℕ) → ids ≡ count_of_ids reply → rest ≤ 500 * (length h' - state_number state + 1)
        → ids + rest ≤ 500 * (length h - state_number since + 1)
    few_more state few more same ids rest ids_are small =
        let on = lead.gets_on base h since state few more in
        let low = on.0 in
        let high = on.1 in
        let count : length h' ≡ length h = ap length same in
        let most = lead.few base h since in
        omega (arith, low, high, count, most, ids_are, small)

    pub few_last : (ids : ℕ) → ids ≡ count_of_ids reply → ids ≤ 500 * (length h - state_number since + 1)
    few_last ids ids_are = let most = lead.few base h since in omega (arith, most, ids_are)

    pub last_page : next_page_state reply ≡ None → (ids : ℕ) → ids ≡ count_of_ids reply → Counts base h since ids
    last_page none ids ids_are = (reply ∷ [], (refl, inr (none, refl)), ids_are ∙ sym (sum_by-cons (λ (n : ℕ). n) (count_of_ids reply) [] ∙ omega arith))

    pub more_pages : (state : List ℕ) → next_page_state reply ≡ Some state → (base' : Base) → base' ≡ base → h' ≡ h → (ids rest : ℕ) → ids ≡ count_of_ids reply → Counts base' h' state rest → Counts base h since (ids + rest)
    more_pages state more base' same_base same ids rest ids_are c =
        let here : ArePages answer added base h state c.0 = subst (λ (y : Base × List Entry). ArePages answer added y.0 y.1 state c.0) (λ i. (same_base i, same i)) c.1 in
        (reply ∷ c.0, (refl, inl (state, more, here)), (λ i. ids_are i + c.2 i) ∙ sym (sum_by-cons (λ (n : ℕ). n) (count_of_ids reply) (map count_of_ids c.0)))
