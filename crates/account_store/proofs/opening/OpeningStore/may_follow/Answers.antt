use Rattle.std.proofs.Common.{◌==◌, ◌||◌, ap, is_some, refl, sym, ◌∙◌}
use Rattle.account_store.proofs.FollowLemmas.{may_come_told}
use Rattle.account_store.specs.declared.kept.KeptEvent.{KeptEvent}
use Rattle.object_log.specs.declared.put.Put.{Put}
use Rattle.spec_history.specs.History.{changes_of, live_object, next_number}
use Rattle.spec_history.specs.declared.entry.Kind.TheVariants.{Calendar, Event}
use Rattle.spec_json.specs.declared.tree.Tree.{Tree}
use Rattle.std.specs.Prelude.{None}
use Rattle.account_store.proofs.opening.OpeningStore.may_follow.Goals as goal

pub returns-in-Calendar : goal.returns-in-Calendar
returns-in-Calendar c =
    let s = c.args.self.now in
    let d = c.args.change.now in
    let cs = changes_of s.told.items in
    let p : Put Tree = record { id = d.id; object = None; size = 0 } in
    c.may_come.ensures p refl ∙ may_come_told (λ (t : Tree). t) Calendar s.calendars.told.items p cs s.calendars_follow ∙ ap (λ q. (d.id == next_number cs q) || is_some (live_object cs q d.id)) (sym c.in-Calendar.is)

pub returns-in-Event : goal.returns-in-Event
returns-in-Event c =
    let s = c.args.self.now in
    let d = c.args.change.now in
    let cs = changes_of s.told.items in
    let p : Put KeptEvent = record { id = d.id; object = None; size = 0 } in
    c.may_come-in-Event.ensures p refl ∙ may_come_told (λ (e : KeptEvent). e.object) Event s.events.told.items p cs s.events_follow ∙ ap (λ q. (d.id == next_number cs q) || is_some (live_object cs q d.id)) (sym c.in-Event.is)
