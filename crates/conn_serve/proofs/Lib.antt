pub mod Exchanging
pub mod Messaging
pub mod Standing
pub mod Completeness
pub mod HistoryLemmas
