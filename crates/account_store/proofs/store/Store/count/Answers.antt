use Rattle.std.proofs.Common.{ap, sym, ◌∙◌}
use Rattle.object_log.proofs.HistoryLemmas.{shows_count}
use Rattle.account_store.proofs.ShownLemmas.{newest_answered}
use Rattle.account_store.specs.declared.kept.KeptEvent.{KeptEvent}
use Rattle.spec_history.specs.declared.entry.Kind.TheVariants.{Calendar, Event}
use Rattle.spec_history.specs.History.{changes_of, count_of_kind}
use Rattle.spec_json.specs.declared.tree.Tree.{Tree}
use Rattle.spec_sizes.specs.Sizes.{is_answered_from}
use Rattle.account_store.proofs.store.Store.count.Goals as goal

pub returns-in-Calendar-clause-exact : goal.returns-in-Calendar-clause-exact
returns-in-Calendar-clause-exact c =
    let s = c.args.self.now in
    let cs = changes_of s.told.items in
    c.count.ensures ∙ shows_count (λ (t : Tree). t) s.calendars.told.items Calendar cs s.calendars_follow ∙ ap (λ q. count_of_kind cs q) (sym c.in-Calendar.is)

pub returns-in-Calendar-clause-answered : goal.returns-in-Calendar-clause-answered
returns-in-Calendar-clause-answered c =
    let s = c.args.self.now in
    let cs = changes_of s.told.items in
    ap (is_answered_from c.args.kind cs) (c.count.ensures ∙ shows_count (λ (t : Tree). t) s.calendars.told.items Calendar cs s.calendars_follow ∙ ap (λ q. count_of_kind cs q) (sym c.in-Calendar.is))
    ∙ newest_answered c.args.kind cs

pub returns-in-Event-clause-exact : goal.returns-in-Event-clause-exact
returns-in-Event-clause-exact c =
    let s = c.args.self.now in
    let cs = changes_of s.told.items in
    c.count-in-Event.ensures ∙ shows_count (λ (e : KeptEvent). e.object) s.events.told.items Event cs s.events_follow ∙ ap (λ q. count_of_kind cs q) (sym c.in-Event.is)

pub returns-in-Event-clause-answered : goal.returns-in-Event-clause-answered
returns-in-Event-clause-answered c =
    let s = c.args.self.now in
    let cs = changes_of s.told.items in
    ap (is_answered_from c.args.kind cs) (c.count-in-Event.ensures ∙ shows_count (λ (e : KeptEvent). e.object) s.events.told.items Event cs s.events_follow ∙ ap (λ q. count_of_kind cs q) (sym c.in-Event.is))
    ∙ newest_answered c.args.kind cs
