-- Sets: what comes of all objects that a call creates, updates and destroys, and what it adds (RFC 8620 section 5.3).
use Rattle.std.specs.Prelude.{ℕ, ◌+◌, ◌∷◌, ◌++◌, ◌&&◌, Bool, true, false, not, List, [], Option, Some, None, flat_map, fold, length, map, nat_lt, if◌then◌else◌, unwrap_or}
use Rattle.std.specs.List.{list_all, list_any, zip}
use Rattle.std.specs.Str.{bytes_eq}
use Rattle.cal_model.specs.CreatedIds.{resolved_id}
use Rattle.cal_model.specs.Operations.{Ground, Operation, changes_in, created_id, destroy, outcomes, outcomes_of_creates, update}
use Rattle.cal_model.specs.declared.outcome.Outcome.{Outcome}
use Rattle.spec_calls.specs.declared.call.MethodError.{MethodError}
use Rattle.spec_calls.specs.declared.call.MethodError.TheVariants.{InvalidArguments, RequestTooLarge, StateMismatch}
use Rattle.spec_calls.specs.declared.call.SetArguments.{SetArguments}
use Rattle.spec_core.specs.Id.{is_id}
use Rattle.spec_core.specs.declared.limits.TheConstants.{MAX_OBJECTS_IN_SET}
use Rattle.spec_history.specs.States.{state_of, state_text}
use Rattle.spec_history.specs.declared.entry.Change.{Change}
use Rattle.spec_history.specs.declared.entry.Kind.{Kind}
use Rattle.spec_json.specs.Data.{Pair}
use Rattle.spec_json.specs.Parts.{members_in}
use Rattle.spec_json.specs.Patch.{is_object}

-- the objects that a set names: creation ids, each with an object; ids, each with a patch; and ids
pub record Objects : Type 0 where
  pub creates : List Pair
  pub updates : List Pair
  pub destroys : List (List ℕ)

abbrev pub objects : Option (List Pair) → Option (List Pair) → Option (List (List ℕ)) → Objects
objects creates updates destroys = record { creates = unwrap_or creates []; updates = unwrap_or updates []; destroys = unwrap_or destroys [] }

-- those that the arguments of a call name
abbrev pub objects_of : SetArguments → Objects
objects_of q = objects q.create q.update q.destroy

-- creation ids are Ids, and what is created or patched is an object
abbrev pub are_values : Objects → Option Bool → Bool
are_values s remove_events =
    (list_all (λ p. is_id p.0 && is_object p.1) s.creates && list_all (λ p. is_object p.1) s.updates) && not (unwrap_or remove_events false)

abbrev pub is_in_state : ℕ → Kind → List Change → Option (List ℕ) → Bool
is_in_state generation kind cs None = true
is_in_state generation kind cs (Some state) = bytes_eq state (state_text (state_of generation kind cs))

-- why a set in an account of this generation is refused as a whole: a value that isn't one of the argument's, then too many objects, then
-- another state than the client's
abbrev pub set_refusal : ℕ → Kind → List Change → Objects → Option (List ℕ) → Option Bool → Option MethodError
set_refusal generation kind cs s if_in_state remove_events =
    if not (are_values s remove_events) then Some InvalidArguments
    else if nat_lt MAX_OBJECTS_IN_SET (length s.creates + (length s.updates + length s.destroys)) then Some RequestTooLarge
    else if not (is_in_state generation kind cs if_in_state) then Some StateMismatch else None

-- a text of a call and the id that it stands for
abbrev pub NamedId : Type 0
NamedId = List ℕ × List ℕ

abbrev pub names_id : List NamedId → List ℕ → Bool
names_id found id = list_any (λ q. bytes_eq q.1 id) found

-- f of each with its outcome
abbrev pub of_each : {X Y : Type 0} → (X → Outcome → List Y) → List X → List Outcome → List Y
of_each f xs os = flat_map (λ q. f q.0 q.1) (zip xs os)

module _ (created : List (List ℕ × List ℕ)) where
  -- the ids of these texts, each once under the first text that stands for it
  abbrev pub ids_named : List (List ℕ) → List NamedId
  ids_named texts = fold (λ found t. if names_id found (resolved_id created t) then found else found ++ (t, resolved_id created t) ∷ []) [] texts

  -- the updates, each with whether its object is among those to be destroyed, and whether one before it names the same
  abbrev pub updates_after : List NamedId → List NamedId → List Pair → List Operation
  updates_after destroyed earlier [] = []
  updates_after destroyed earlier (p ∷ ps) =
      update (resolved_id created p.0) (members_in p.1) (names_id destroyed (resolved_id created p.0)) (names_id earlier (resolved_id created p.0))
      ∷ updates_after destroyed (earlier ++ (p.0, resolved_id created p.0) ∷ []) ps

-- What comes of a set whose request has created these ids so far, after these changes: creates, then updates, then destroys, where
-- `#key` may name what this call creates.
module _ (g : Ground) (kind : Kind) (created : List (List ℕ × List ℕ)) (cs : List Change) (s : Objects) where
  abbrev pub create_outcomes : List Outcome
  create_outcomes = outcomes_of_creates g kind created cs s.creates

  -- the ids that this call's creates add
  abbrev pub new_ids : List (List ℕ × List ℕ)
  new_ids = of_each created_id s.creates create_outcomes

  abbrev pub all_ids : List (List ℕ × List ℕ)
  all_ids = created ++ new_ids

  abbrev pub after_creates : List Change
  after_creates = cs ++ flat_map changes_in create_outcomes

  abbrev pub ids_to_destroy : List NamedId
  ids_to_destroy = ids_named all_ids s.destroys

  abbrev pub update_outcomes : List Outcome
  update_outcomes = outcomes g kind all_ids after_creates (updates_after all_ids ids_to_destroy [] s.updates)

  abbrev pub after_updates : List Change
  after_updates = after_creates ++ flat_map changes_in update_outcomes

  abbrev pub destroy_outcomes : List Outcome
  destroy_outcomes = outcomes g kind all_ids after_updates (map (λ q. destroy q.1) ids_to_destroy)

  abbrev pub set_outcomes : List Outcome
  set_outcomes = create_outcomes ++ (update_outcomes ++ destroy_outcomes)

  -- the changes that a set makes
  abbrev pub set_changes : List Change
  set_changes = flat_map changes_in set_outcomes
