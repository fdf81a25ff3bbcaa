pub mod ReadSeries
pub mod StoredEvents
pub mod EventsBase
