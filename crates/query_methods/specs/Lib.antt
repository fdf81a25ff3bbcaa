pub mod Among
pub mod Sights
pub mod Compared
pub mod Reports
pub mod ReadFor
