pub mod Ordered
pub mod Numbered
pub mod Reports
