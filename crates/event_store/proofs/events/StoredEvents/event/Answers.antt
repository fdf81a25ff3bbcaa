use Rattle.std.proofs.Common.{◌≡◌, Option, subst, sym}
use Rattle.account_store.specs.Store.{event_puts}
use Rattle.account_store.specs.declared.kept.KeptEvent.{KeptEvent}
use Rattle.event_store.proofs.ReadLemmas.{latest_read}
use Rattle.event_store.specs.ReadSeries.{series_beside, series_read}
use Rattle.event_store.proofs.events.StoredEvents.event.Goals as goal

pub returns-clause-series : goal.returns-clause-series
returns-clause-series c =
    let e = c.args.self.now in
    c.stored.ensures.series e.zones.now
    (subst (λ (o : Option KeptEvent). series_beside o ≡ series_read e.zones.now o) (sym c.event.ensures.kept) (latest_read e.zones.now (event_puts e.store.now) c.args.id e.read))
