-- What a reply tells of a page.
use Rattle.std.specs.Prelude.{ℕ, List, [], ◌∷◌, ◌==◌, not, codes}
use Rattle.spec_queries.specs.States.{id_list}
use Rattle.spec_history.specs.Base.{Base}
use Rattle.spec_history.specs.States.{state_in_generation, state_text}
use Rattle.spec_history.specs.declared.entry.Kind.{Kind}
use Rattle.spec_json.specs.Data.{text, truth}
use Rattle.spec_json.specs.declared.tree.Tree.{Tree}
use Rattle.spec_json.specs.declared.tree.Tree.TheVariants.{Object}
use Rattle.object_log.specs.declared.page.Page.{Page}

-- the arguments that tell this page, where there are so many changes of the kind
abbrev pub page_object : Base → Kind → List ℕ → ℕ → Page → Tree
page_object base kind since count page = Object (
    (codes "accountId", text base.account_id) ∷ (codes "created", id_list kind page.created) ∷ (codes "destroyed", id_list kind page.destroyed)
    ∷ (codes "hasMoreChanges", truth (not (page.until == count))) ∷ (codes "newState", text (state_text (state_in_generation base.generation page.until))) ∷ (codes "oldState", text since)
    ∷ (codes "updated", id_list kind page.updated) ∷ [])
