pub mod Clocks
pub mod ZoneRules
pub mod Windows
pub mod Overlaps
pub mod BusyPeriods
