pub mod Runs
pub mod BusyInstants
pub mod Availability
