use Rattle.std.proofs.Common.{ap, option_map, ◌∙◌}
use Rattle.account_store.proofs.ShownLemmas.{copied_object}
use Rattle.object_log.proofs.HistoryLemmas.{shows_object}
use Rattle.account_store.specs.declared.kept.KeptEvent.{KeptEvent}
use Rattle.spec_history.specs.declared.entry.Kind.TheVariants.{Event}
use Rattle.spec_history.specs.History.{changes_of}
use Rattle.account_store.proofs.store.Store.event.Goals as goal

pub returns-clause-object : goal.returns-clause-object
returns-clause-object c =
    let s = c.args.self.now in
    let cs = changes_of s.told.items in
    copied_object c.get.result ∙ ap (option_map (λ (e : KeptEvent). e.object)) c.get.ensures ∙ shows_object (λ (e : KeptEvent). e.object) s.events.told.items Event cs s.events_follow c.args.id
