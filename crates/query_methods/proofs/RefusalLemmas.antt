-- When methods are refused whose criteria aren't.
use Rattle.std.proofs.Common.{◌≡◌, ℕ, List, Bool, true, false, if◌then◌else◌, Option, Some, None, refl, ap, sym}
use Rattle.std.specs.Prelude.{unwrap_or}
use Rattle.spec_history.specs.declared.entry.Change.{Change}
use Rattle.spec_history.specs.declared.entry.Kind.TheVariants.{Event}
use Rattle.spec_calls.specs.declared.call.Criteria.{Criteria}
use Rattle.spec_calls.specs.declared.call.Paging.{Paging}
use Rattle.spec_calls.specs.declared.call.QueryChangesArguments.{QueryChangesArguments}
use Rattle.spec_queries.specs.Changed.{size_refusal}
use Rattle.spec_queries.specs.Criteria.{criteria_refusal, order_of, sight_of}
use Rattle.spec_queries.specs.Found.{anchor_refusal}
use Rattle.spec_queries.specs.Queries.{events_asked, is_paging, query_changes_refusal, query_refusal}
use Rattle.spec_queries.specs.States.{is_known_state, is_maximum}
use Rattle.spec_history.specs.Base.{Base}
use Rattle.time_text.specs.State.{number_named}

-- a query is refused then for its anchor alone
pub by_anchor : (base : Base) (cs : List Change) (c : Criteria) (p : Paging) → is_paging p ≡ true → criteria_refusal base.zones c false ≡ None
    → query_refusal base cs (events_asked c p) ≡ anchor_refusal (sight_of base.zones c) (order_of c) cs p
by_anchor base cs c p h k = rw (h, k) refl

-- the state is one that is known, and the text names it
known_is : (b : Bool) (o : Option ℕ) (k : ℕ) → Some k ≡ (if b then o else None) → (b ≡ true) × (o ≡ Some k)
known_is true o k h = (refl, sym h)
known_is false o k h = cc

pub named : (generation : ℕ) (cs : List Change) (text : List ℕ) (k : ℕ) → Some k ≡ (if is_known_state generation Event cs text then number_named generation text else None) → k ≡ unwrap_or (number_named generation text) 0
named generation cs text k h = ap (λ o. unwrap_or o 0) (sym (known_is (is_known_state generation Event cs text) (number_named generation text) k h).1)

-- its changes are refused then for their number alone
pub by_size : (base : Base) (cs : List Change) (q : QueryChangesArguments) (k : ℕ) → is_maximum q.max ≡ true → criteria_refusal base.zones q.criteria false ≡ None → q.expand ≡ false
    → Some k ≡ (if is_known_state base.generation Event cs q.since then number_named base.generation q.since else None) → query_changes_refusal base cs q ≡ size_refusal (sight_of base.zones q.criteria) (order_of q.criteria) cs q k
by_size base cs q k m r e h =
    let parts = known_is (is_known_state base.generation Event cs q.since) (number_named base.generation q.since) k h in
    rw (m, r, e, parts.0, parts.1) refl
