pub mod Searches
pub mod Reading
