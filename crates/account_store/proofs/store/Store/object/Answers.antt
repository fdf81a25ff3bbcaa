use Rattle.std.proofs.Common.{Bor, Option, ap, option_map, sym, ◌∙◌}
use Rattle.std.specs.Prelude.{option_copied}
use Rattle.object_log.specs.Puts.{latest}
use Rattle.account_store.proofs.ShownLemmas.{as_it_is}
use Rattle.object_log.proofs.HistoryLemmas.{shows_object}
use Rattle.account_store.specs.declared.kept.KeptEvent.{KeptEvent}
use Rattle.spec_history.specs.declared.entry.Kind.TheVariants.{Calendar, Event}
use Rattle.spec_history.specs.History.{changes_of, live_object}
use Rattle.spec_json.specs.declared.tree.Tree.{Tree}
use Rattle.account_store.proofs.store.Store.object.Goals as goal

pub returns-in-Calendar : goal.returns-in-Calendar
returns-in-Calendar c =
    let s = c.args.self.now in
    let cs = changes_of s.told.items in
    c.get.ensures ∙ sym (as_it_is (latest s.calendars.told.items c.args.id)) ∙ shows_object (λ (t : Tree). t) s.calendars.told.items Calendar cs s.calendars_follow c.args.id ∙ ap (λ q. live_object cs q c.args.id) (sym c.in-Calendar.is)

pub returns-in-Some : goal.returns-in-Some
returns-in-Some c =
    let s = c.args.self.now in
    let cs = changes_of s.told.items in
    sym (ap (λ (o : Option (Bor KeptEvent)). option_map (λ (e : KeptEvent). e.object) (option_copied o)) c.in-Some.is) ∙ ap (option_map (λ (e : KeptEvent). e.object)) c.get-in-Event.ensures
    ∙ shows_object (λ (e : KeptEvent). e.object) s.events.told.items Event cs s.events_follow c.args.id ∙ ap (λ q. live_object cs q c.args.id) (sym c.in-Event.is)

pub returns-in-None : goal.returns-in-None
returns-in-None c =
    let s = c.args.self.now in
    let cs = changes_of s.told.items in
    sym (ap (λ (o : Option (Bor KeptEvent)). option_map (λ (e : KeptEvent). e.object) (option_copied o)) c.in-None.is) ∙ ap (option_map (λ (e : KeptEvent). e.object)) c.get-in-Event.ensures
    ∙ shows_object (λ (e : KeptEvent). e.object) s.events.told.items Event cs s.events_follow c.args.id ∙ ap (λ q. live_object cs q c.args.id) (sym c.in-Event.is)
