-- What the account of events was opened with.
use Rattle.event_store.specs.declared.events.StoredEvents.{StoredEvents}
use Rattle.spec_history.specs.Base.{Base}

abbrev pub base_of : StoredEvents → Base
base_of events = record { account_id = events.account.now; zones = events.zones.now; generation = events.generation }
