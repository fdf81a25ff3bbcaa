pub mod Reports
pub mod Grounds
pub mod Telling
