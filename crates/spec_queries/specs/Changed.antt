-- What changed of a query's result since a state, and what the reply tells of it (RFC 8620 section 5.6).
use Rattle.std.specs.Prelude.{ℕ, ℤ, pos, ◌+◌, List, [], ◌∷◌, Bool, Option, Some, None, codes, length, map, option_map, unsigned_abs, if◌then◌else◌}
use Rattle.spec_calls.specs.declared.call.MethodError.{MethodError}
use Rattle.spec_calls.specs.declared.call.MethodError.TheVariants.{TooManyChanges}
use Rattle.spec_calls.specs.declared.call.QueryChangesArguments.{QueryChangesArguments}
use Rattle.spec_history.specs.Base.{Base}
use Rattle.spec_history.specs.ObjectId.{id_text}
use Rattle.spec_history.specs.Pages.{is_within}
use Rattle.spec_history.specs.States.{state_of, state_text}
use Rattle.spec_history.specs.declared.entry.Change.{Change}
use Rattle.spec_history.specs.declared.entry.Kind.TheVariants.{Event}
use Rattle.spec_json.specs.Data.{Data, items_of, list, members_of, object, text, whole}
use Rattle.spec_json.specs.declared.tree.Tree.{Tree}
use Rattle.spec_json.specs.declared.tree.Tree.TheVariants.{Object}
use Rattle.spec_queries.specs.Found.{total_member}
use Rattle.spec_queries.specs.States.{id_list}
use Rattle.spec_queries.specs.Matching.{result_at, result_of, touched_since}
use Rattle.spec_queries.specs.QueryChanges.{delta_of}
use Rattle.spec_queries.specs.declared.comparator.Comparator.{Comparator}
use Rattle.spec_queries.specs.declared.delta.Delta.{Delta}
use Rattle.spec_queries.specs.declared.delta.Place.{Place}
use Rattle.spec_queries.specs.declared.item.Item.{Item}

abbrev pub size_of_delta : Delta → ℕ
size_of_delta delta = length delta.removed + length delta.added

-- an id that the client puts in, with its index
abbrev pub added_item : Place → Data
added_item place = object (members_of ((codes "id", text (id_text Event place.id)) ∷ (codes "index", whole (pos place.index)) ∷ []))

-- the arguments of the reply that tells what changed, where the result has so many ids now
abbrev pub delta_response : Base → List Change → QueryChangesArguments → ℕ → Delta → Tree
delta_response base cs q total delta = Object (
    (codes "accountId", text base.account_id) ∷ (codes "added", list (items_of (map added_item delta.added)))
    ∷ (codes "newQueryState", text (state_text (state_of base.generation Event cs))) ∷ (codes "oldQueryState", text q.since)
    ∷ (codes "removed", id_list Event delta.removed) ∷ total_member q.calculate_total total)

module _ (see : Tree → Option Item) (order : List Comparator) (cs : List Change) where
  -- from the result at state k to that at the end of the history
  abbrev pub delta_since : ℕ → Delta
  delta_since k = delta_of (result_at see order cs k) (result_of see order cs) (touched_since cs k)

  abbrev pub size_refusal : QueryChangesArguments → ℕ → Option MethodError
  size_refusal q k = if is_within (option_map unsigned_abs q.max) (size_of_delta (delta_since k)) then None else Some TooManyChanges

  abbrev pub changed_response : Base → QueryChangesArguments → ℕ → Tree
  changed_response base q k = delta_response base cs q (length (result_of see order cs)) (delta_since k)
