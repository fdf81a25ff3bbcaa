-- Pages of the changes of an account's events lead to the last, and what a workload writes.
use Rattle.std.proofs.Common.{◌≡◌, ◌≤◌, ◌<◌, ◌-◌, ◌^◌, ◌==◌, not, ℕ, List, [], Bool, true, false, cond, Option, Some, None, Result, Ok, Err, IfOk, codes, length, map, arith, refl, sym, ap, ◌∙◌, subst, eq-eqb, eqb-true}
use Rattle.std.proofs.Math.Nat.{lt_of_not-le}
use Rattle.std.proofs.lemmas.Bool.{and_parts}
use Rattle.std.proofs.lemmas.Bool.Decides.{nat_tests}
use Rattle.std.proofs.lemmas.List.{length-map}
use Rattle.std.proofs.lemmas.List.Sums.{count_by-le-length}
use Rattle.std.specs.Option.{option_map_or}
use Rattle.std.specs.Prelude.{nat_le, option_and_then, unwrap_or}
use Rattle.account_desk.specs.SoleDesk.{fresh_account}
use Rattle.cal_model.specs.Answer.{added, answer, answered, unless_error}
use Rattle.cal_model.specs.Changes.{changes_refusal, changes_response}
use Rattle.spec_calls.specs.declared.call.MethodError.{MethodError}
use Rattle.spec_calls.specs.declared.call.MethodError.TheVariants.{CannotCalculateChanges}
use Rattle.spec_calls.specs.declared.call.Reply.{Reply}
use Rattle.spec_history.specs.Base.{Base}
use Rattle.spec_history.specs.History.{changes_of, is_kind, count_of_kind}
use Rattle.spec_history.specs.ObjectId.{id_text}
use Rattle.spec_history.specs.Pages.{Mention, created, destroyed, is_retained, is_within, mentions, page_end, size_of_page, updated}
use Rattle.spec_history.specs.States.{state_in_generation}
use Rattle.spec_history.specs.declared.entry.Change.{Change}
use Rattle.spec_history.specs.declared.entry.Entry.{Entry}
use Rattle.spec_history.specs.declared.entry.Kind.TheVariants.{Event}
use Rattle.spec_history.specs.declared.state.State.{State}
use Rattle.spec_json.specs.Data.{items_back, items_of, list_of, text}
use Rattle.spec_queries.specs.States.{is_known_state}
use Rattle.spec_sizes.specs.Sizes.{is_answered_from}
use Rattle.spec_site.specs.Configuration.{built_in}
use Rattle.jmapd_run.specs.Headline.{IsWorkText}
use Rattle.object_log.proofs.EndLemmas.{greatest-ge}
use Rattle.object_log.proofs.LawLemmas.{gets_on, length-mentions, page_ends, page_fits}
use Rattle.time_text.proofs.StateLemmas.{generation_small, state_back}
use Rattle.time_text.specs.State.{number_named, number_within, state_in}
use Rattle.workload.specs.Counts.{count_listed, count_of_ids, has_more, lines, new_state, next_page_state, state_number}
use Rattle.workload.specs.Generated.{page_arguments}
use Rattle.workload.specs.Work.{IsWork, PagesLead}
use Rattle.workload.specs.declared.numbers.Numbers.{Numbers}

-- ---- tests that pass

le_of : (n m : ℕ) → nat_le n m ≡ true → n ≤ m
le_of n m h = grind (arith, nat_tests)

differ : (a b : ℕ) → not (a == b) ≡ true → a ≡ b → ⊥
differ a b h e =
    let t : not true ≡ true = ap not (sym (eq-eqb a b e)) ∙ h in
    cc

below : (a b : ℕ) → a ≤ b → (a ≡ b → ⊥) → a < b
below a b within other = lt_of_not-le (λ (h : b ≤ a). other (omega (arith, h, within)))

-- ---- the state that a page begins at

-- the state that a text names where it names this number in a generation
named_is : (generation : ℕ) (o : Option State) (k : ℕ) → option_and_then (number_within generation) o ≡ Some k → o ≡ Some (state_in_generation generation k)
named_is generation None k e = cc
named_is generation (Some s) k e = within (s.generation == generation) refl e
  where
    within : (b : Bool) → (s.generation == generation) ≡ b → cond b (Some s.number) None ≡ Some k → Some s ≡ Some (state_in_generation generation k)
    within true same e = ap Some (λ i. record { generation = eqb-true s.generation generation same i; number = ap (λ o. unwrap_or o 0) e i })
    within false same e = cc

answered_from : (cs : List Change) (o : Option ℕ) → option_map_or (λ k. is_answered_from Event cs k) o false ≡ true → (k : ℕ) × (o ≡ Some k) × (k ≤ count_of_kind cs Event)
answered_from cs None e = cc
answered_from cs (Some k) e = (k, refl, le_of k (count_of_kind cs Event) (and_parts (nat_le k (count_of_kind cs Event)) _ (and_parts (is_retained (count_of_kind cs Event) k) _ e).0).0)

known_state : (known : Bool) → cond (not known) (Some CannotCalculateChanges) None ≡ None → known ≡ true
known_state true e = refl
known_state false e = cc

-- ---- a page

taken : (b : Bool) (s state : List ℕ) → cond b (Some s) None ≡ Some state → (b ≡ true) × (s ≡ state)
taken true s state e = (refl, ap (λ o. unwrap_or o []) e)
taken false s state e = cc

counted : (ids : List ℕ) → length (list_of (items_of (map (λ id. text (id_text Event id)) ids))) ≡ length ids
counted ids = ap length (items_back (map (λ id. text (id_text Event id)) ids)) ∙ length-map ids (λ id. text (id_text Event id))

module _ (base : Base) (h : List Entry) (since : List ℕ) where
  abbrev cs : List Change
  cs = changes_of h

  abbrev ms : List Mention
  ms = mentions Event cs

  abbrev from : ℕ
  from = unwrap_or (number_named base.generation since) 0

  abbrev until : ℕ
  until = page_end ms from (Some 500)

  abbrev page : Reply
  page = answered h (changes_response base cs (page_arguments since) from) []

  page_is_few : count_of_ids page ≤ 500
  page_is_few =
      let small : size_of_page ms from until ≤ 500 = le_of (size_of_page ms from until) 500 (page_fits ms from (Some 500)) in
      let one : count_listed (codes "created") page ≡ length (created ms from until) = counted (created ms from until) in
      let two : count_listed (codes "updated") page ≡ length (updated ms from until) = counted (updated ms from until) in
      let three : count_listed (codes "destroyed") page ≡ length (destroyed ms from until) = counted (destroyed ms from until) in
      omega (arith, small, one, two, three)

  pub few_of : (e : Option MethodError) → count_of_ids (unless_error h e page) ≤ 500
  few_of None = page_is_few
  few_of (Some e) = omega arith

  abbrev Leads : List ℕ → Type 0
  Leads state = (state_number since < state_number state) × (state_number state ≤ length h)

  page_leads : is_known_state base.generation Event cs since ≡ true → length h ≤ 2 ^ 40 → has_more page ≡ true → Leads (new_state page)
  page_leads known few more =
      let k = answered_from cs (number_named base.generation since) known in
      let begins : from ≡ k.0 = ap (λ o. unwrap_or o 0) k.1 in
      let named = named_is base.generation (state_in since) k.0 k.1 in
      let number : state_number since ≡ k.0 = ap (λ o. option_map_or (λ s. s.number) o 0) named in
      let within : k.0 ≤ count_of_kind cs Event = k.2 in
      let count : length ms ≡ count_of_kind cs Event = length-mentions cs Event in
      let all : count_of_kind cs Event ≤ length h = omega (arith, count_by-le-length (λ (c : Change). is_kind Event c.kind) cs, length-map h (λ (e : Entry). e.change)) in
      let ends : until ≤ length ms = page_ends ms from (Some 500) (omega (arith, begins, within, count)) in
      let grows : from ≤ until = greatest-ge (λ j. is_within (Some 500) (size_of_page ms from j)) from (length ms - from) in
      let inside : until < count_of_kind cs Event = below until (count_of_kind cs Event) (omega (arith, ends, count)) (differ until (count_of_kind cs Event) more) in
      let on : from < until = gets_on ms from 500 (omega (arith, grows, inside, count)) (omega arith) in
      let next : state_number (new_state page) ≡ until = ap (λ o. option_map_or (λ s. s.number) o 0)
      (state_back base.generation until (generation_small since (state_in_generation base.generation k.0) named) (omega (arith, inside, all, few))) in
      (omega (arith, number, begins, on, next), omega (arith, next, inside, all))

  pub leads_of : (e : Option MethodError) → changes_refusal base.generation cs (page_arguments since) ≡ e → (state : List ℕ) → length h ≤ 2 ^ 40 → next_page_state (unless_error h e page) ≡ Some state → Leads state
  leads_of None is state few more =
      let next = taken (has_more page) (new_state page) state more in
      subst Leads next.1 (page_leads (known_state (is_known_state base.generation Event cs since) is) few next.0)
  leads_of (Some e) is state few more = cc

pub pages_lead : PagesLead answer added
pages_lead = record {
  adds_nothing = λ base h since s. refl;
  few = λ base h since. few_of base h since (changes_refusal base.generation (changes_of h) (page_arguments since));
  gets_on = λ base h since state few more. leads_of base h since (changes_refusal base.generation (changes_of h) (page_arguments since)) refl state few more;
}

-- the lines of the numbers of such a workload are its text
pub text_is : {X E : Type 0} (bytes : X → List ℕ) (r : Result X E) (account : Base × List Entry) (number size : ℕ) (n : Numbers) → account ≡ fresh_account built_in 0 → IsWork answer added account.0 account.1 number size n
    → IfOk r (λ t. bytes t ≡ lines n) → IfOk r (λ t. IsWorkText number size (bytes t))
text_is bytes (Ok t) account number size n fresh is written = (n, subst (λ (a : Base × List Entry). IsWork answer added a.0 a.1 number size n) fresh is, written)
text_is bytes (Err e) account number size n fresh is written = tt
