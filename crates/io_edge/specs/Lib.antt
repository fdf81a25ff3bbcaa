pub mod Outside
pub mod FailingCalls
pub mod MemoryForms
pub mod Moments
