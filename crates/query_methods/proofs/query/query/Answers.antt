use Rattle.std.proofs.Common.{◌≡◌, subst, sym, ◌∙◌}
use Rattle.std.proofs.lemmas.Result.{IfErr-weaker, IfOk-weaker, on_ok_weaker}
use Rattle.account_store.specs.Store.{entries}
use Rattle.event_store.specs.EventsBase.{base_of}
use Rattle.spec_history.specs.History.{changes_of}
use Rattle.spec_queries.specs.Found.{anchor_refusal, found_response}
use Rattle.spec_queries.specs.Queries.{events_asked, query_refusal}
use Rattle.query_methods.proofs.RefusalLemmas.{by_anchor}
use Rattle.query_methods.proofs.query.query.Goals as goal
use Rattle.query_methods.specs.Sights.{seen_by}
use Rattle.query_methods.specs.Reports.{Reports}

pub returns-clause-response : goal.returns-clause-response
returns-clause-response c =
    let cs = changes_of (entries c.args.events.now.store.now) in
    let asked = c.args.criteria.now in
    IfOk-weaker c.found.result _ _
    (λ t is. is ∙ (λ i. found_response (c.in_ok-terms.ensures.sight i) (c.in_ok-terms.ensures.order i) cs c.args.paging.now (base_of c.args.events.now)))
    c.found.ensures.response

pub returns-clause-answered : goal.returns-clause-answered
returns-clause-answered c =
    let cs = changes_of (entries c.args.events.now.store.now) in
    let asked = c.args.criteria.now in
    let p = c.args.paging.now in
    let told : query_refusal (base_of c.args.events.now) cs (events_asked asked p) ≡ anchor_refusal (seen_by c.in_ok-terms.terms.sight) c.in_ok-terms.terms.order cs p =
    by_anchor (base_of c.args.events.now) cs asked p (sym c.is_paging.ensures ∙ c.if-not-is_paging.false) c.in_ok-terms.ensures.known
    ∙ (λ i. anchor_refusal (sym c.in_ok-terms.ensures.sight i) (sym c.in_ok-terms.ensures.order i) cs p) in
    on_ok_weaker c.found.result (λ none. told ∙ none) c.found.ensures.found

pub returns-clause-refused : goal.returns-clause-refused
returns-clause-refused c =
    let cs = changes_of (entries c.args.events.now.store.now) in
    let asked = c.args.criteria.now in
    let p = c.args.paging.now in
    let told : query_refusal (base_of c.args.events.now) cs (events_asked asked p) ≡ anchor_refusal (seen_by c.in_ok-terms.terms.sight) c.in_ok-terms.terms.order cs p =
    by_anchor (base_of c.args.events.now) cs asked p (sym c.is_paging.ensures ∙ c.if-not-is_paging.false) c.in_ok-terms.ensures.known
    ∙ (λ i. anchor_refusal (sym c.in_ok-terms.ensures.sight i) (sym c.in_ok-terms.ensures.order i) cs p) in
    IfErr-weaker c.found.result _ _ (λ e reports. subst (Reports e) (sym told) reports) c.found.ensures.refused
