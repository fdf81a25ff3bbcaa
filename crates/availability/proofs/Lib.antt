pub mod Runs
pub mod Joining
pub mod Marking
pub mod Determined
