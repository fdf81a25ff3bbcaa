use Rattle.std.proofs.Common.{◌≡◌, ◌↔◌, Bool, false, List, IfOk, IsErrOf, ap, subst, sym, ◌∙◌}
use Rattle.object_log.specs.IsPage.{IsPage}
use Rattle.object_log.specs.declared.changes.ChangesError.TheVariants.{NotRetained}
use Rattle.spec_history.specs.Pages.{Mention, mentions}
use Rattle.spec_sizes.specs.Sizes.{is_answered_from}
use Rattle.account_store.proofs.ShownLemmas.{answered}
use Rattle.object_log.proofs.HistoryLemmas.{shows_mentions}
use Rattle.account_store.specs.declared.kept.KeptEvent.{KeptEvent}
use Rattle.spec_history.specs.declared.entry.Kind.TheVariants.{Calendar, Event}
use Rattle.spec_history.specs.History.{changes_of}
use Rattle.spec_json.specs.declared.tree.Tree.{Tree}
use Rattle.account_store.proofs.store.Store.changes.Goals as goal

pub returns-in-Calendar-clause-ok : goal.returns-in-Calendar-clause-ok
returns-in-Calendar-clause-ok c =
    let s = c.args.self.now in
    let cs = changes_of s.told.items in
    subst (λ (ms : List Mention). IfOk c.changes.result (IsPage ms c.args.since c.args.max)) (shows_mentions (λ (t : Tree). t) s.calendars.told.items Calendar cs s.calendars_follow ∙ ap (λ q. mentions q cs) (sym c.in-Calendar.is)) c.changes.ensures.ok

pub returns-in-Calendar-clause-not_retained : goal.returns-in-Calendar-clause-not_retained
returns-in-Calendar-clause-not_retained c =
    let s = c.args.self.now in
    let cs = changes_of s.told.items in
    subst (λ (b : Bool). IsErrOf c.changes.result NotRetained ↔ (b ≡ false)) (answered (λ (t : Tree). t) s.calendars.told.items Calendar cs s.calendars_follow s.calendars.first c.args.since (s.calendars_known c.args.since) ∙ ap (λ q. is_answered_from q cs c.args.since) (sym c.in-Calendar.is)) c.changes.ensures.not_retained

pub returns-in-Event-clause-ok : goal.returns-in-Event-clause-ok
returns-in-Event-clause-ok c =
    let s = c.args.self.now in
    let cs = changes_of s.told.items in
    subst (λ (ms : List Mention). IfOk c.changes-in-Event.result (IsPage ms c.args.since c.args.max)) (shows_mentions (λ (e : KeptEvent). e.object) s.events.told.items Event cs s.events_follow ∙ ap (λ q. mentions q cs) (sym c.in-Event.is)) c.changes-in-Event.ensures.ok

pub returns-in-Event-clause-not_retained : goal.returns-in-Event-clause-not_retained
returns-in-Event-clause-not_retained c =
    let s = c.args.self.now in
    let cs = changes_of s.told.items in
    subst (λ (b : Bool). IsErrOf c.changes-in-Event.result NotRetained ↔ (b ≡ false)) (answered (λ (e : KeptEvent). e.object) s.events.told.items Event cs s.events_follow s.events.first c.args.since (s.events_known c.args.since) ∙ ap (λ q. is_answered_from q cs c.args.since) (sym c.in-Event.is)) c.changes-in-Event.ensures.not_retained
