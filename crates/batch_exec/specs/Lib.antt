pub mod Answering
pub mod Judgements
pub mod Refusal
pub mod Stepping
pub mod Histories
