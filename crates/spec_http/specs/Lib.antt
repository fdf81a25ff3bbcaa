pub mod Fields
pub mod Heads
pub mod Messages
pub mod Responses
pub mod Pipeline
