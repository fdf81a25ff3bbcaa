use Rattle.std.proofs.Common.{sym, ◌∙◌}
use Rattle.account_store.specs.Store.{entries}
use Rattle.event_store.specs.EventsBase.{base_of}
use Rattle.expanded_query.proofs.RefusalLemmas.{answered, found_same, refused, replied}
use Rattle.expanded_query.specs.Founds.{ordered_ids}
use Rattle.spec_history.specs.History.{changes_of}
use Rattle.expanded_query.proofs.query.expanded_query.Goals as goal

pub returns-clause-response : goal.returns-clause-response
returns-clause-response c =
    let cs = changes_of (entries c.args.events.now.store.now) in
    let asked = c.args.criteria.now in
    let terms = c.in_ok-terms.terms in
    let same = found_same c.args.events.now.zones.now cs asked terms.sight terms.order c.in_ok-sources.sources.items c.deref.result.now c.window.result c.in_ok-all.all.items c.deref-2.result.now
    c.in_ok-terms.ensures.sight c.in_ok-terms.ensures.order c.in_ok-sources.ensures c.deref.ensures.value c.window.ensures.value c.in_ok-all.ensures c.deref-2.ensures.value in
    replied (base_of c.args.events.now) cs asked c.args.paging.now (ordered_ids terms.order c.deref-2.result.now) same c.found.result c.found.ensures.response

pub returns-clause-answered : goal.returns-clause-answered
returns-clause-answered c =
    let cs = changes_of (entries c.args.events.now.store.now) in
    let asked = c.args.criteria.now in
    let terms = c.in_ok-terms.terms in
    let same = found_same c.args.events.now.zones.now cs asked terms.sight terms.order c.in_ok-sources.sources.items c.deref.result.now c.window.result c.in_ok-all.all.items c.deref-2.result.now
    c.in_ok-terms.ensures.sight c.in_ok-terms.ensures.order c.in_ok-sources.ensures c.deref.ensures.value c.window.ensures.value c.in_ok-all.ensures c.deref-2.ensures.value in
    answered (base_of c.args.events.now) cs asked c.args.paging.now (ordered_ids terms.order c.deref-2.result.now) same c.found.result (sym c.is_paging.ensures ∙ c.if-not-is_paging.false) c.in_ok-terms.ensures.known c.found.ensures.found

pub returns-clause-refused : goal.returns-clause-refused
returns-clause-refused c =
    let cs = changes_of (entries c.args.events.now.store.now) in
    let asked = c.args.criteria.now in
    let terms = c.in_ok-terms.terms in
    let same = found_same c.args.events.now.zones.now cs asked terms.sight terms.order c.in_ok-sources.sources.items c.deref.result.now c.window.result c.in_ok-all.all.items c.deref-2.result.now
    c.in_ok-terms.ensures.sight c.in_ok-terms.ensures.order c.in_ok-sources.ensures c.deref.ensures.value c.window.ensures.value c.in_ok-all.ensures c.deref-2.ensures.value in
    refused (base_of c.args.events.now) cs asked c.args.paging.now (ordered_ids terms.order c.deref-2.result.now) same c.found.result (sym c.is_paging.ensures ∙ c.if-not-is_paging.false) c.in_ok-terms.ensures.known c.found.ensures.refused
