pub mod StreamQueries
pub mod EventStreams
