-- What changed since a state (RFC 8620 section 5.2).
use Rattle.std.specs.Prelude.{ℕ, ℤ, List, [], ◌∷◌, ◌==◌, not, Option, Some, None, codes, option_map, unsigned_abs, if◌then◌else◌}
use Rattle.spec_calls.specs.declared.call.ChangesArguments.{ChangesArguments}
use Rattle.spec_calls.specs.declared.call.MethodError.{MethodError}
use Rattle.spec_calls.specs.declared.call.MethodError.TheVariants.{CannotCalculateChanges, InvalidArguments}
use Rattle.spec_history.specs.Base.{Base}
use Rattle.spec_history.specs.History.{count_of_kind}
use Rattle.spec_history.specs.Pages.{created, destroyed, mentions, page_end, updated}
use Rattle.spec_history.specs.States.{state_in_generation, state_text}
use Rattle.spec_history.specs.declared.entry.Change.{Change}
use Rattle.spec_history.specs.declared.entry.Kind.{Kind}
use Rattle.spec_json.specs.Data.{text, truth}
use Rattle.spec_json.specs.declared.tree.Tree.{Tree}
use Rattle.spec_json.specs.declared.tree.Tree.TheVariants.{Object}
use Rattle.spec_queries.specs.States.{id_list, is_known_state, is_maximum}

-- why what changed in an account of this generation isn't told
abbrev pub changes_refusal : ℕ → List Change → ChangesArguments → Option MethodError
changes_refusal generation cs q =
    if not (is_maximum q.max) then Some InvalidArguments
    else if not (is_known_state generation q.kind cs q.since) then Some CannotCalculateChanges else None

-- the page from number k to number j
abbrev pub page_response : Base → Kind → List Change → List ℕ → ℕ → ℕ → Tree
page_response base kind cs since k j = Object (
    (codes "accountId", text base.account_id) ∷ (codes "created", id_list kind (created (mentions kind cs) k j))
    ∷ (codes "destroyed", id_list kind (destroyed (mentions kind cs) k j)) ∷ (codes "hasMoreChanges", truth (not (j == count_of_kind cs kind)))
    ∷ (codes "newState", text (state_text (state_in_generation base.generation j))) ∷ (codes "oldState", text since)
    ∷ (codes "updated", id_list kind (updated (mentions kind cs) k j)) ∷ [])

-- the arguments of the response, whose page ends as far as the maximum allows
abbrev pub changes_response : Base → List Change → ChangesArguments → ℕ → Tree
changes_response base cs q k = page_response base q.kind cs q.since k (page_end (mentions q.kind cs) k (option_map unsigned_abs q.max))
