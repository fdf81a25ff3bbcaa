pub mod Asking
pub mod Finishing
pub mod Granting
pub mod Responding
pub mod Progressing
mod HistoryLemmas
mod Filling
