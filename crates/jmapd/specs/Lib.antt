pub mod Messages
pub mod Untold
