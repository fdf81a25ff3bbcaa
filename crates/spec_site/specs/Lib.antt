pub mod TimeZones
pub mod Configuration
pub mod SessionObject
