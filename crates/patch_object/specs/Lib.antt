pub mod Cursor
pub mod Edits
pub mod Paths
pub mod Reading
pub mod Reports
