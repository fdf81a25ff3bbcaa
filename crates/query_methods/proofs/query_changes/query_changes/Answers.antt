use Rattle.std.proofs.Common.{◌≡◌, Some, if◌then◌else◌, None, subst, sym, ◌∙◌}
use Rattle.std.proofs.lemmas.Result.{IfErr-weaker, IfOk-weaker, on_ok_weaker}
use Rattle.account_store.specs.Store.{entries}
use Rattle.event_store.specs.EventsBase.{base_of}
use Rattle.spec_history.specs.History.{changes_of}
use Rattle.spec_history.specs.declared.entry.Kind.TheVariants.{Event}
use Rattle.spec_queries.specs.Changed.{changed_response, size_refusal}
use Rattle.spec_queries.specs.Queries.{query_changes_refusal}
use Rattle.spec_queries.specs.States.{is_known_state}
use Rattle.query_methods.proofs.RefusalLemmas.{by_size, named}
use Rattle.query_methods.proofs.query_changes.query_changes.Goals as goal
use Rattle.query_methods.specs.Reports.{Reports}
use Rattle.query_methods.specs.Sights.{seen_by}
use Rattle.time_text.specs.State.{number_named}

pub returns-in-Some-clause-response : goal.returns-in-Some-clause-response
returns-in-Some-clause-response c =
    let cs = changes_of (entries c.args.events.now.store.now) in
    let q = c.args.arguments.now in
    let g = c.args.events.now.generation in
    let known : Some c.in-Some.since ≡ (if is_known_state g Event cs q.since then number_named g q.since else None) = sym c.in-Some.is ∙ c.number_known.ensures.value in
    IfOk-weaker c.changed.result _ _
    (λ t is. is ∙ (λ i. changed_response (c.in_ok-terms.ensures.sight i) (c.in_ok-terms.ensures.order i) cs (base_of c.args.events.now) q (named g cs q.since c.in-Some.since known i)))
    c.changed.ensures.response

pub returns-in-Some-clause-answered : goal.returns-in-Some-clause-answered
returns-in-Some-clause-answered c =
    let cs = changes_of (entries c.args.events.now.store.now) in
    let q = c.args.arguments.now in
    let g = c.args.events.now.generation in
    let known : Some c.in-Some.since ≡ (if is_known_state g Event cs q.since then number_named g q.since else None) = sym c.in-Some.is ∙ c.number_known.ensures.value in
    let told : query_changes_refusal (base_of c.args.events.now) cs q ≡ size_refusal (seen_by c.in_ok-terms.terms.sight) c.in_ok-terms.terms.order cs q c.in-Some.since =
    by_size (base_of c.args.events.now) cs q c.in-Some.since (sym c.is_maximum.ensures ∙ c.if-not-is_maximum.false) c.in_ok-terms.ensures.known c.if-not-arguments.true known
    ∙ (λ i. size_refusal (sym c.in_ok-terms.ensures.sight i) (sym c.in_ok-terms.ensures.order i) cs q c.in-Some.since) in
    on_ok_weaker c.changed.result (λ none. told ∙ none) c.changed.ensures.few

pub returns-in-Some-clause-refused : goal.returns-in-Some-clause-refused
returns-in-Some-clause-refused c =
    let cs = changes_of (entries c.args.events.now.store.now) in
    let q = c.args.arguments.now in
    let g = c.args.events.now.generation in
    let known : Some c.in-Some.since ≡ (if is_known_state g Event cs q.since then number_named g q.since else None) = sym c.in-Some.is ∙ c.number_known.ensures.value in
    let told : query_changes_refusal (base_of c.args.events.now) cs q ≡ size_refusal (seen_by c.in_ok-terms.terms.sight) c.in_ok-terms.terms.order cs q c.in-Some.since =
    by_size (base_of c.args.events.now) cs q c.in-Some.since (sym c.is_maximum.ensures ∙ c.if-not-is_maximum.false) c.in_ok-terms.ensures.known c.if-not-arguments.true known
    ∙ (λ i. size_refusal (sym c.in_ok-terms.ensures.sight i) (sym c.in_ok-terms.ensures.order i) cs q c.in-Some.since) in
    IfErr-weaker c.changed.result _ _ (λ e reports. subst (Reports e) (sym told) reports) c.changed.ensures.refused
