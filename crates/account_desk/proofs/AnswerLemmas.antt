-- Answers look at the changes of a history and at nothing else of it.
use Rattle.std.proofs.Common.{◌≡◌, ℕ, ℤ, List, [], Option, Some, None, Result, Ok, Err, length, unwrap_or, refl, sym, ap, ◌∙◌}
use Rattle.std.proofs.lemmas.List.{length-map}
use Rattle.account_core.proofs.Committing.{changes_back}
use Rattle.cal_model.specs.Answer.{answer, answer_to, added, availability_answer, changes_answer, changes_by, get_answer, ground, query_answer, query_changes_answer, refused, set_answer, slot_answer, slot_reply, unless_error, unless_refused}
use Rattle.cal_model.specs.Changes.{changes_response, changes_refusal}
use Rattle.cal_model.specs.Gets.{get_response, get_error, ids_not_found, listed}
use Rattle.cal_model.specs.SetReply.{set_arguments}
use Rattle.cal_model.specs.Sets.{new_ids, objects_of, set_changes, set_refusal}
use Rattle.spec_availability.specs.Availability.{availability_refusal, availability_response}
use Rattle.spec_history.specs.Base.{Base}
use Rattle.spec_history.specs.History.{changes_of}
use Rattle.spec_calls.specs.declared.call.Asks.{Asks}
use Rattle.spec_calls.specs.declared.call.Asks.TheVariants.{Availability, Changes, Get, Query, QueryChanges, Set, Slot}
use Rattle.spec_calls.specs.declared.call.AvailabilityArguments.{AvailabilityArguments}
use Rattle.spec_calls.specs.declared.call.Call.{Call}
use Rattle.spec_calls.specs.declared.call.ChangesArguments.{ChangesArguments}
use Rattle.spec_calls.specs.declared.call.GetArguments.{GetArguments}
use Rattle.spec_calls.specs.declared.call.MethodError.{MethodError}
use Rattle.spec_calls.specs.declared.call.QueryArguments.{QueryArguments}
use Rattle.spec_calls.specs.declared.call.QueryChangesArguments.{QueryChangesArguments}
use Rattle.spec_calls.specs.declared.call.Reply.{Reply}
use Rattle.spec_calls.specs.declared.call.SetArguments.{SetArguments}
use Rattle.spec_calls.specs.declared.call.SlotArguments.{SlotArguments}
use Rattle.spec_history.specs.declared.entry.Change.{Change}
use Rattle.spec_history.specs.declared.entry.Entry.{Entry}
use Rattle.spec_history.specs.declared.stamp.Stamp.{Stamp}
use Rattle.spec_json.specs.declared.tree.Tree.TheVariants.{Null}
use Rattle.spec_queries.specs.Queries.{query_changes_refusal, query_changes_response, query_refusal, query_response}
use Rattle.spec_slots.specs.AccountSlots.{slot_answered}
use Rattle.spec_slots.specs.Texts.{slot_object}
use Rattle.spec_slots.specs.declared.slot.FoundSlot.{FoundSlot}
use Rattle.time_text.specs.State.{number_named}

module _ (b : Base) (h h' : List Entry) (same : changes_of h ≡ changes_of h') where
  same_length : length h ≡ length h'
  same_length = sym (length-map h (λ (e : Entry). e.change)) ∙ (ap length same ∙ length-map h' (λ (e : Entry). e.change))

  same_refused : (e : MethodError) → refused h e ≡ refused h' e
  same_refused e = λ i. record { arguments = Null; error = Some e; created = []; place = same_length i }

  same_unless : (e : Option MethodError) (r r' : Reply) → r ≡ r' → unless_error h e r ≡ unless_error h' e r'
  same_unless None r r' is = is
  same_unless (Some e) r r' is = same_refused e

  -- a refusal that looks at changes alone, and else replies that are the same
  same_by : (refusal : List Change → Option MethodError) (r r' : Reply) → r ≡ r' → unless_error h (refusal (changes_of h)) r ≡ unless_error h' (refusal (changes_of h')) r'
  same_by refusal r r' is = ap (λ (cs : List Change). unless_error h (refusal cs) r) same ∙ same_unless (refusal (changes_of h')) r r' is

  module _ (m : ℤ) (created : List (List ℕ × List ℕ)) where
    same_get : (q : GetArguments) → get_answer b h created q ≡ get_answer b h' created q
    same_get q = same_by (λ cs. get_error cs created q) _ _ (λ i. record {
      arguments = get_response b q.kind (same i) (listed (same i) created q) (ids_not_found (same i) q.kind created q.ids);
      error = None;
      created = [];
      place = same_length i;
    })

    same_page : (q : ChangesArguments) → changes_answer b h q ≡ changes_answer b h' q
    same_page q = same_by (λ cs. changes_refusal b.generation cs q) _ _ (λ i. record {
      arguments = changes_response b (same i) q (unwrap_or (number_named b.generation q.since) 0);
      error = None;
      created = [];
      place = same_length i;
    })

    same_set : (q : SetArguments) → set_answer b h m created q ≡ set_answer b h' m created q
    same_set q = same_by (λ cs. set_refusal b.generation q.kind cs (objects_of q) q.if_in_state q.remove_events) _ _ (λ i. record {
      arguments = set_arguments (ground b h m created) q.kind created (same i) (objects_of q);
      error = None;
      created = new_ids (ground b h m created) q.kind created (same i) (objects_of q);
      place = same_length i;
    })

    same_query : (q : QueryArguments) → query_answer b h q ≡ query_answer b h' q
    same_query q = same_by (λ cs. query_refusal b cs q) _ _ (λ i. record {
      arguments = query_response b (same i) q;
      error = None;
      created = [];
      place = same_length i;
    })

    same_query_changes : (q : QueryChangesArguments) → query_changes_answer b h q ≡ query_changes_answer b h' q
    same_query_changes q = same_by (λ cs. query_changes_refusal b cs q) _ _ (λ i. record {
      arguments = query_changes_response b (same i) q;
      error = None;
      created = [];
      place = same_length i;
    })

    same_availability : (q : AvailabilityArguments) → availability_answer b h q ≡ availability_answer b h' q
    same_availability q = same_unless (availability_refusal b q) _ _ (λ i. record {
      arguments = availability_response b (same i) q;
      error = None;
      created = [];
      place = same_length i;
    })

    same_slot_reply : (r : Result FoundSlot MethodError) → slot_reply b h r ≡ slot_reply b h' r
    same_slot_reply (Ok found) = λ i. record {
      arguments = slot_object b.account_id found;
      error = None;
      created = [];
      place = same_length i;
    }
    same_slot_reply (Err e) = same_refused e

    same_slot : (q : SlotArguments) → slot_answer b h q ≡ slot_answer b h' q
    same_slot q = ap (λ (cs : List Change). slot_reply b h (slot_answered b.zones cs q)) same ∙ same_slot_reply (slot_answered b.zones (changes_of h') q)

    same_to : (asks : Asks) → answer_to b h m created asks ≡ answer_to b h' m created asks
    same_to (Get q) = same_get q
    same_to (Changes q) = same_page q
    same_to (Set q) = same_set q
    same_to (Query q) = same_query q
    same_to (QueryChanges q) = same_query_changes q
    same_to (Availability q) = same_availability q
    same_to (Slot q) = same_slot q

    same_changes : (asks : Asks) → changes_by b h m created asks ≡ changes_by b h' m created asks
    same_changes (Get q) = refl
    same_changes (Changes q) = refl
    same_changes (Set q) =
        ap (λ (cs : List Change). unless_refused (set_refusal b.generation q.kind cs (objects_of q) q.if_in_state q.remove_events) (set_changes (ground b h m created) q.kind created cs (objects_of q))) same
    same_changes (Query q) = refl
    same_changes (QueryChanges q) = refl
    same_changes (Availability q) = refl
    same_changes (Slot q) = refl

  module _ (c : Call) where
    -- two histories with the same changes have the same answer at one moment
    pub same_answer : (m m' : ℤ) → m ≡ m' → answer b h c m ≡ answer b h' c m'
    same_answer m m' moments = same_to m c.created c.asks ∙ ap (λ (n : ℤ). answer b h' c n) moments

    -- and the same changes are added
    pub same_added : (s s' : Stamp) → s.moment ≡ s'.moment → changes_of (added b h c s) ≡ changes_of (added b h' c s')
    same_added s s' moments =
        changes_back s (changes_by b h s.moment c.created c.asks) 0
        ∙ (same_changes s.moment c.created c.asks ∙ (ap (λ (n : ℤ). changes_by b h' n c.created c.asks) moments ∙ sym (changes_back s' (changes_by b h' s'.moment c.created c.asks) 0)))
