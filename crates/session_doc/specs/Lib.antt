pub mod LeadingZones
pub mod Reports
