use Rattle.std.proofs.Common.{ap, option_map, ◌∙◌}
use Rattle.account_store.proofs.ShownLemmas.{copied_object, told_from}
use Rattle.object_log.proofs.HistoryLemmas.{shows_earlier}
use Rattle.account_store.specs.declared.kept.KeptEvent.{KeptEvent}
use Rattle.spec_history.specs.declared.entry.Kind.TheVariants.{Event}
use Rattle.spec_history.specs.History.{changes_of}
use Rattle.account_store.proofs.store.Store.event_at.Goals as goal

pub get_at-requires-clause-known : goal.get_at-requires-clause-known
get_at-requires-clause-known c =
    let s = c.args.self.now in
    let cs = changes_of s.told.items in
    (told_from (λ (e : KeptEvent). e.object) s.events.told.items Event cs s.events_follow s.events.first c.args.k (s.events_known c.args.k) c.requires).0

pub get_at-requires-clause-reached : goal.get_at-requires-clause-reached
get_at-requires-clause-reached c =
    let s = c.args.self.now in
    let cs = changes_of s.told.items in
    (told_from (λ (e : KeptEvent). e.object) s.events.told.items Event cs s.events_follow s.events.first c.args.k (s.events_known c.args.k) c.requires).1

pub returns-clause-object : goal.returns-clause-object
returns-clause-object c =
    let s = c.args.self.now in
    let cs = changes_of s.told.items in
    copied_object c.get_at.result ∙ ap (option_map (λ (e : KeptEvent). e.object)) c.get_at.ensures ∙ shows_earlier (λ (e : KeptEvent). e.object) s.events.told.items Event cs s.events_follow c.args.k c.args.id
