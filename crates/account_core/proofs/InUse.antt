-- Which calendars live events are in, behind changes that leave events as they are.
use Rattle.std.proofs.Common.{◌≡◌, ◌++◌, ◌||◌, ◌∙◌, ℕ, List, [], ◌∷◌, Bool, true, false, Option, Some, None, ap, flat_map, refl, sym, subst}
use Rattle.std.proofs.lemmas.Option.{none-some}
use Rattle.std.specs.BTreeSet.{BTreeSet}
use Rattle.std.specs.List.{list_any}
use Rattle.std.specs.Prelude.{if◌then◌else◌}
use Rattle.account_core.proofs.LiveEvents.{first_event, live_before}
use Rattle.account_core.specs.Uses.{AreInUse, has_staged_event, is_object_in_calendar}
use Rattle.cal_model.specs.EventObject.{has_event}
use Rattle.spec_events.specs.Events.{names_calendar}
use Rattle.spec_history.specs.History.{ids_at, ids_from, is_kind, live_object, some_object, with_id}
use Rattle.spec_history.specs.declared.entry.Change.{Change}
use Rattle.spec_history.specs.declared.entry.Kind.TheVariants.{Event}
use Rattle.spec_json.specs.TreeData.{data_of}

ids_step : (ids : List ℕ) (c : Change) (cs : List Change) (b : Bool) → is_kind Event c.kind ≡ b → (b || has_staged_event cs) ≡ false
    → (has_staged_event cs ≡ false → ids_from ids cs Event ≡ ids) → ids_from (if is_kind Event c.kind then with_id ids c.id else ids) cs Event ≡ ids
ids_step ids c cs false e rest kept = rw e (kept rest)
ids_step ids c cs true e rest kept = cc

ids_kept : (cs : List Change) (ids : List ℕ) → has_staged_event cs ≡ false → ids_from ids cs Event ≡ ids
ids_kept [] ids none = refl
ids_kept (c ∷ cs) ids none = ids_step ids c cs (is_kind Event c.kind) refl none (ids_kept cs ids)

ids_more : (cs ds : List Change) (ids : List ℕ) → ids_from ids (cs ++ ds) Event ≡ ids_from (ids_from ids cs Event) ds Event
ids_more [] ds ids = refl
ids_more (c ∷ cs) ds ids = ids_more cs ds (if is_kind Event c.kind then with_id ids c.id else ids)

-- one of these events is live and in the calendar
abbrev pub has_event_among : List Change → ℕ → List ℕ → Bool
has_event_among cs calendar ids = list_any (λ t. names_calendar calendar (data_of t)) (flat_map (λ id. some_object (live_object cs Event id)) ids)

same_among : (cs ds : List Change) (calendar : ℕ) (ids : List ℕ) → has_staged_event ds ≡ false → has_event_among (cs ++ ds) calendar ids ≡ has_event_among cs calendar ids
same_among cs ds calendar [] none = refl
same_among cs ds calendar (id ∷ ids) none =
    ap (λ o. list_any (λ t. names_calendar calendar (data_of t)) (some_object o ++ flat_map (λ n. some_object (live_object (cs ++ ds) Event n)) ids)) (live_before cs ds id none)
    ∙ first_event calendar (live_object cs Event id) (flat_map (λ n. some_object (live_object (cs ++ ds) Event n)) ids)
    ∙ ap (λ b. is_object_in_calendar calendar (live_object cs Event id) || b) (same_among cs ds calendar ids none)
    ∙ sym (first_event calendar (live_object cs Event id) (flat_map (λ n. some_object (live_object cs Event n)) ids))

-- an event is in a calendar where one was before these changes, if none of them is of an event
has_event_before : (cs ds : List Change) (calendar : ℕ) → has_staged_event ds ≡ false → has_event (cs ++ ds) calendar ≡ has_event cs calendar
has_event_before cs ds calendar none =
    ap (has_event_among (cs ++ ds) calendar) (ids_more cs ds [] ∙ ids_kept ds (ids_at cs Event) none) ∙ same_among cs ds calendar (ids_at cs Event) none

module _ (cs ds : List Change) where
  -- the set tells of all changes what it tells of those before
  pub in_use_tells : (in_use : BTreeSet ℕ) → AreInUse cs in_use → has_staged_event ds ≡ false → AreInUse (cs ++ ds) in_use
  in_use_tells in_use told none calendar = told calendar ∙ sym (has_event_before cs ds calendar none)

  kept_by : (in_use : Option (BTreeSet ℕ)) (s : BTreeSet ℕ) (b : Bool) → ((t : BTreeSet ℕ) → in_use ≡ Some t → AreInUse cs t) → has_staged_event ds ≡ b
      → (if b then None else in_use) ≡ Some s → AreInUse (cs ++ ds) s
  kept_by in_use s true told is e = absurd (none-some s e)
  kept_by in_use s false told is e = in_use_tells s (told s e) is

  -- what is kept of it behind changes that became part of the history
  pub in_use_committed : (in_use after : Option (BTreeSet ℕ)) (all : List Change) → ((t : BTreeSet ℕ) → in_use ≡ Some t → AreInUse cs t) → all ≡ cs ++ ds
      → after ≡ (if has_staged_event ds then None else in_use) → (s : BTreeSet ℕ) → after ≡ Some s → AreInUse all s
  in_use_committed in_use after all told is kept s e =
      subst (λ es. AreInUse es s) (sym is) (kept_by in_use s (has_staged_event ds) told refl (sym kept ∙ e))
