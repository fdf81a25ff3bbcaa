pub mod Opened
pub mod Lines
pub mod Statuses
pub mod Runs
pub mod Steps
pub mod Completes
