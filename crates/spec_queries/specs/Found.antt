-- What a query finds at a history, and what its reply tells of it (RFC 8620 section 5.5).
use Rattle.std.specs.Prelude.{ℕ, ℤ, pos, ◌-◌, List, [], ◌∷◌, ◌++◌, ◌==◌, Bool, false, not, Option, Some, None, codes, drop, length, min, nat_le, option_and_then, take, unsigned_abs, unwrap_or, if◌then◌else◌}
use Rattle.std.specs.List.{position}
use Rattle.std.specs.Option.{option_map_or}
use Rattle.spec_calls.specs.declared.call.MethodError.{MethodError}
use Rattle.spec_calls.specs.declared.call.MethodError.TheVariants.{AnchorNotFound}
use Rattle.spec_calls.specs.declared.call.Paging.{Paging}
use Rattle.spec_history.specs.Base.{Base}
use Rattle.spec_history.specs.ObjectId.{object_number}
use Rattle.spec_history.specs.States.{state_of, state_text}
use Rattle.spec_history.specs.declared.entry.Change.{Change}
use Rattle.spec_history.specs.declared.entry.Kind.TheVariants.{Event}
use Rattle.spec_json.specs.Data.{Data, Pair, text, truth, whole}
use Rattle.spec_json.specs.declared.tree.Tree.{Tree}
use Rattle.spec_json.specs.declared.tree.Tree.TheVariants.{Object}
use Rattle.spec_queries.specs.States.{id_list}
use Rattle.spec_queries.specs.declared.limits.TheConstants.{MAX_IDS_IN_QUERY}
use Rattle.spec_queries.specs.Matching.{result_of}
use Rattle.spec_queries.specs.Windows.{window_of}
use Rattle.spec_queries.specs.declared.comparator.Comparator.{Comparator}
use Rattle.spec_queries.specs.declared.item.Item.{Item}
use Rattle.spec_queries.specs.declared.window.Anchor.{Anchor}
use Rattle.spec_queries.specs.declared.window.Anchor.TheVariants.{None as NoAnchor, At, Missing}
use Rattle.spec_queries.specs.declared.window.Cut.{Cut}

abbrev pub at_place : Option ℕ → Anchor
at_place None = Missing
at_place (Some place) = At place

-- where the event of an id stands in a result
abbrev pub anchor_in : List ℕ → Option (List ℕ) → Anchor
anchor_in ids None = NoAnchor
anchor_in ids (Some anchor) = at_place (option_and_then (λ number. position (λ id. id == number) ids) (object_number Event anchor))

-- the limit of the client is no more than that of the server
abbrev pub is_own_limit : Option ℤ → Bool
is_own_limit limit = option_map_or (λ n. nat_le (unsigned_abs n) MAX_IDS_IN_QUERY) limit false

-- the most ids that the reply has
abbrev pub most_ids : Option ℤ → ℕ
most_ids limit = option_map_or (λ n. min (unsigned_abs n) MAX_IDS_IN_QUERY) limit MAX_IDS_IN_QUERY

-- the limit of the server is told where it isn't the client's that holds
abbrev pub server_limit : Option ℤ → List Pair
server_limit limit = if is_own_limit limit then [] else (codes "limit", whole (pos MAX_IDS_IN_QUERY)) ∷ []

abbrev pub total_member : Bool → ℕ → List Pair
total_member calculate_total total = if calculate_total then (codes "total", whole (pos total)) ∷ [] else []

-- the window of a result of so many ids; none where the anchor isn't in it
abbrev pub cut_asked : Paging → ℕ → Anchor → Option Cut
cut_asked p total anchor = window_of total p.position anchor p.anchor_offset (most_ids p.limit)

abbrev pub missing_anchor : Option Cut → Option MethodError
missing_anchor cut = option_map_or (λ c. None) cut (Some AnchorNotFound)

-- what stands at the places of a cut
abbrev pub cut_out : {X : Type 0} → Cut → List X → List X
cut_out cut ids = take (cut.to - cut.from) (drop cut.from ids)

-- where no window is asked for, as when a query is refused
abbrev pub no_window : Cut
no_window = record { from = 0; to = 0 }

-- the arguments of the reply that tells these ids, which are a window of a result of so many
abbrev pub window_response : Base → List Change → Paging → Bool → Data → ℕ → Cut → Tree
window_response base cs p expand ids total cut = Object (
    (codes "accountId", text base.account_id) ∷ (codes "canCalculateChanges", truth (not expand)) ∷ (codes "ids", ids)
    ∷ server_limit p.limit ++ (codes "position", whole (pos cut.from)) ∷ (codes "queryState", text (state_text (state_of base.generation Event cs)))
    ∷ total_member p.calculate_total total)

-- the same of the numbers of events
abbrev pub numbers_window : Base → List Change → Paging → List ℕ → Cut → Tree
numbers_window base cs p ids cut = window_response base cs p false (id_list Event (cut_out cut ids)) (length ids) cut

abbrev pub cut_of_numbers : Paging → List ℕ → Option Cut
cut_of_numbers p ids = cut_asked p (length ids) (anchor_in ids p.anchor)

module _ (see : Tree → Option Item) (order : List Comparator) (cs : List Change) (p : Paging) where
  abbrev pub anchor_refusal : Option MethodError
  anchor_refusal = missing_anchor (cut_of_numbers p (result_of see order cs))

  abbrev pub found_response : Base → Tree
  found_response base =
      let ids = result_of see order cs in
      numbers_window base cs p ids (unwrap_or (cut_of_numbers p ids) no_window)
