pub mod Runs
pub mod Faultless
