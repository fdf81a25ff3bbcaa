pub mod FolderLemmas
pub mod Crossing
