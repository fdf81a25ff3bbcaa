-- What the reply to a set tells (RFC 8620 section 5.3).
use Rattle.std.specs.Prelude.{ℕ, List, [], ◌∷◌, ◌++◌, Bool, false, not, Option, Some, None, codes, filter, option_map, unwrap_or}
use Rattle.std.specs.Str.{bytes_eq}
use Rattle.cal_model.specs.Operations.{Ground}
use Rattle.cal_model.specs.SetErrors.{set_error}
use Rattle.cal_model.specs.Sets.{Objects, create_outcomes, destroy_outcomes, ids_to_destroy, of_each, set_changes, update_outcomes}
use Rattle.cal_model.specs.declared.outcome.Outcome.{Outcome}
use Rattle.cal_model.specs.declared.outcome.Outcome.TheVariants.{Accepted, Refused}
use Rattle.spec_history.specs.ObjectId.{id_text}
use Rattle.spec_history.specs.States.{state_of, state_text}
use Rattle.spec_history.specs.declared.entry.Change.{Change}
use Rattle.spec_history.specs.declared.entry.Kind.{Kind}
use Rattle.spec_history.specs.declared.entry.Kind.TheVariants.{Calendar, Event}
use Rattle.spec_json.specs.Data.{Data, Pair, items_of, list, lookup, members_of, null, object, text}
use Rattle.spec_json.specs.Edit.{put_all}
use Rattle.spec_json.specs.Parts.{members_in}
use Rattle.spec_json.specs.SameData.{same_data}
use Rattle.spec_json.specs.TreeData.{data_of}
use Rattle.spec_json.specs.declared.tree.Tree.{Tree}
use Rattle.spec_json.specs.declared.tree.Tree.TheVariants.{Object}

abbrev pub is_value : Data → Option Data → Bool
is_value d None = false
is_value d (Some e) = same_data e d

-- the stored members that the client's object lacks or has with another value
abbrev pub members_beyond : List Pair → List Pair → List Pair
members_beyond client stored = filter (λ p. not (is_value p.1 (lookup p.0 client))) stored

abbrev pub members_stored : Change → List Pair
members_stored c = members_in (unwrap_or (option_map data_of c.object) null)

-- what `created` tells of an accepted create
abbrev pub created_member : Pair → Outcome → List Pair
created_member p (Accepted c) = (p.0, object (members_of (members_beyond (members_in p.1) (members_stored c)))) ∷ []
created_member p (Refused e) = []

-- what an update changed that the client doesn't know: of an event, when it was updated
abbrev pub news_of : Kind → Change → Data
news_of Calendar c = null
news_of Event c = object (members_of (filter (λ p. bytes_eq p.0 (codes "updated")) (members_stored c)))

-- what `updated` tells of an accepted update
abbrev pub updated_member : Pair → Outcome → List Pair
updated_member p (Accepted c) = (id_text c.kind c.id, news_of c.kind c) ∷ []
updated_member p (Refused e) = []

-- what `destroyed` tells of an accepted destroy
abbrev pub destroyed_item : List ℕ × List ℕ → Outcome → List Data
destroyed_item q (Accepted c) = text (id_text c.kind c.id) ∷ []
destroyed_item q (Refused e) = []

-- what is told of a refused one, under the text of the call
abbrev pub refused_member : {X : Type 0} → List ℕ × X → Outcome → List Pair
refused_member q (Accepted c) = []
refused_member q (Refused e) = (q.0, set_error e) ∷ []

abbrev pub object_or_null : List Pair → Data
object_or_null [] = null
object_or_null (p ∷ ps) = object (members_of (put_all (p ∷ ps) []))

abbrev pub list_or_null : List Data → Data
list_or_null [] = null
list_or_null (d ∷ ds) = list (items_of (d ∷ ds))

-- the arguments of the response to a set, after these changes
abbrev pub set_arguments : Ground → Kind → List (List ℕ × List ℕ) → List Change → Objects → Tree
set_arguments g kind created cs s = Object (
    (codes "accountId", text g.base.account_id)
    ∷ (codes "created", object_or_null (of_each created_member s.creates (create_outcomes g kind created cs s)))
    ∷ (codes "destroyed", list_or_null (of_each destroyed_item (ids_to_destroy g kind created cs s) (destroy_outcomes g kind created cs s)))
    ∷ (codes "newState", text (state_text (state_of g.base.generation kind (cs ++ set_changes g kind created cs s))))
    ∷ (codes "notCreated", object_or_null (of_each refused_member s.creates (create_outcomes g kind created cs s)))
    ∷ (codes "notDestroyed", object_or_null (of_each refused_member (ids_to_destroy g kind created cs s) (destroy_outcomes g kind created cs s)))
    ∷ (codes "notUpdated", object_or_null (of_each refused_member s.updates (update_outcomes g kind created cs s)))
    ∷ (codes "oldState", text (state_text (state_of g.base.generation kind cs)))
    ∷ (codes "updated", object_or_null (of_each updated_member s.updates (update_outcomes g kind created cs s))) ∷ [])
