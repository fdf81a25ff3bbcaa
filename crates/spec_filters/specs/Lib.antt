pub mod Members
pub mod Filters
pub mod Matches
