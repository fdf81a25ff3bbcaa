pub mod RunLemmas
pub mod BusyLemmas
