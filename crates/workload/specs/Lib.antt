pub mod Generated
pub mod Counts
pub mod Work
