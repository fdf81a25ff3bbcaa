use Rattle.std.proofs.Common.{◌≡◌, ℕ, List, IfOk, ap, subst, sym, ◌∙◌}
use Rattle.account_store.specs.Earlier.{live_ids}
use Rattle.account_store.proofs.FollowLemmas.{live_shown}
use Rattle.account_store.specs.declared.kept.KeptEvent.{KeptEvent}
use Rattle.spec_history.specs.declared.entry.Kind.TheVariants.{Calendar, Event}
use Rattle.spec_history.specs.History.{changes_of}
use Rattle.spec_json.specs.declared.tree.Tree.{Tree}
use Rattle.account_store.proofs.store.Store.live_ids.Goals as goal

pub returns-in-Calendar : goal.returns-in-Calendar
returns-in-Calendar c =
    let s = c.args.self.now in
    let cs = changes_of s.told.items in
    subst (λ (l : List ℕ). IfOk c.live_ids.result (λ ids. ids.items ≡ l)) (live_shown (λ (t : Tree). t) Calendar s.calendars.told.items cs s.calendars_follow ∙ ap (λ q. live_ids cs q) (sym c.in-Calendar.is)) c.live_ids.ensures

pub returns-in-Event : goal.returns-in-Event
returns-in-Event c =
    let s = c.args.self.now in
    let cs = changes_of s.told.items in
    subst (λ (l : List ℕ). IfOk c.live_ids-in-Event.result (λ ids. ids.items ≡ l)) (live_shown (λ (e : KeptEvent). e.object) Event s.events.told.items cs s.events_follow ∙ ap (λ q. live_ids cs q) (sym c.in-Event.is)) c.live_ids-in-Event.ensures
