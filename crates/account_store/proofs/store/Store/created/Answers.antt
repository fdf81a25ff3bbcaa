use Rattle.std.proofs.Common.{ap, length, sym, ◌∙◌}
use Rattle.object_log.proofs.HistoryLemmas.{shows_ids}
use Rattle.account_store.specs.declared.kept.KeptEvent.{KeptEvent}
use Rattle.spec_history.specs.declared.entry.Kind.TheVariants.{Calendar, Event}
use Rattle.spec_history.specs.History.{changes_of, ids_at}
use Rattle.spec_json.specs.declared.tree.Tree.{Tree}
use Rattle.account_store.proofs.store.Store.created.Goals as goal

pub returns-in-Calendar : goal.returns-in-Calendar
returns-in-Calendar c =
    let s = c.args.self.now in
    let cs = changes_of s.told.items in
    c.created.ensures ∙ ap length (shows_ids (λ (t : Tree). t) s.calendars.told.items Calendar cs s.calendars_follow) ∙ ap (λ q. length (ids_at cs q)) (sym c.in-Calendar.is)

pub returns-in-Event : goal.returns-in-Event
returns-in-Event c =
    let s = c.args.self.now in
    let cs = changes_of s.told.items in
    c.created-in-Event.ensures ∙ ap length (shows_ids (λ (e : KeptEvent). e.object) s.events.told.items Event cs s.events_follow) ∙ ap (λ q. length (ids_at cs q)) (sym c.in-Event.is)
