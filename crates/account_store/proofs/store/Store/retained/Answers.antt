use Rattle.std.proofs.Common.{ap, sym, ◌∙◌}
use Rattle.spec_sizes.specs.Sizes.{is_answered_from}
use Rattle.account_store.proofs.ShownLemmas.{answered}
use Rattle.account_store.specs.declared.kept.KeptEvent.{KeptEvent}
use Rattle.spec_history.specs.declared.entry.Kind.TheVariants.{Calendar, Event}
use Rattle.spec_history.specs.History.{changes_of}
use Rattle.spec_json.specs.declared.tree.Tree.{Tree}
use Rattle.account_store.proofs.store.Store.retained.Goals as goal

pub returns-in-Calendar : goal.returns-in-Calendar
returns-in-Calendar c =
    let s = c.args.self.now in
    let cs = changes_of s.told.items in
    c.retained.ensures ∙ answered (λ (t : Tree). t) s.calendars.told.items Calendar cs s.calendars_follow s.calendars.first c.args.k (s.calendars_known c.args.k) ∙ ap (λ q. is_answered_from q cs c.args.k) (sym c.in-Calendar.is)

pub returns-in-Event : goal.returns-in-Event
returns-in-Event c =
    let s = c.args.self.now in
    let cs = changes_of s.told.items in
    c.retained-in-Event.ensures ∙ answered (λ (e : KeptEvent). e.object) s.events.told.items Event cs s.events_follow s.events.first c.args.k (s.events_known c.args.k) ∙ ap (λ q. is_answered_from q cs c.args.k) (sym c.in-Event.is)
