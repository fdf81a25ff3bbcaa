pub mod EntryParts
pub mod EntryText
pub mod Journals
