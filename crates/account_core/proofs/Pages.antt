-- What a reply tells of a page is what the definition says.
use Rattle.std.proofs.Common.{◌≡◌, ℕ, [], List, true, false, Option, Some, option_map, unsigned_abs, refl}
use Rattle.std.proofs.lemmas.Bool.{true_from_ne_false}
use Rattle.account_core.specs.PageObject.{page_object}
use Rattle.cal_model.specs.Answer.{answered, changes_answer}
use Rattle.cal_model.specs.Changes.{page_response}
use Rattle.spec_calls.specs.declared.call.ChangesArguments.{ChangesArguments}
use Rattle.spec_queries.specs.States.{is_maximum}
use Rattle.spec_history.specs.Base.{Base}
use Rattle.spec_history.specs.History.{changes_of, count_of_kind}
use Rattle.spec_history.specs.Pages.{mentions, page_end}
use Rattle.spec_history.specs.declared.entry.Change.{Change}
use Rattle.spec_history.specs.declared.entry.Entry.{Entry}
use Rattle.spec_history.specs.declared.entry.Kind.{Kind}
use Rattle.object_log.specs.IsPage.{IsPage}
use Rattle.object_log.specs.declared.page.Page.{Page}
use Rattle.spec_sizes.specs.Sizes.{is_answered_from}
use Rattle.time_text.specs.State.{number_named}

page_told : (base : Base) (kind : Kind) (cs : List Change) (since : List ℕ) (k : ℕ) (most : Option ℕ) (page : Page) → IsPage (mentions kind cs) k most page
    → page_object base kind since (count_of_kind cs kind) page ≡ page_response base kind cs since k (page_end (mentions kind cs) k most)
page_told base kind cs since k most page h = rw (h.created, h.updated, h.destroyed, h.until) refl

-- the reply that tells the page of a state that is known
pub changes_told : (base : Base) (h : List Entry) (q : ChangesArguments) (k : ℕ) (page : Page)
    → is_maximum q.max ≡ true → number_named base.generation q.since ≡ Some k → (is_answered_from q.kind (changes_of h) k ≡ false → ⊥) → IsPage (mentions q.kind (changes_of h)) k (option_map unsigned_abs q.max) page
    → answered h (page_object base q.kind q.since (count_of_kind (changes_of h) q.kind) page) [] ≡ changes_answer base h q
changes_told base h q k page maximum state retained is =
    rw (maximum, state, true_from_ne_false (is_answered_from q.kind (changes_of h) k) retained, page_told base q.kind (changes_of h) q.since k (option_map unsigned_abs q.max) page is) refl
