pub mod RunLemmas
pub mod FaultlessLemmas
