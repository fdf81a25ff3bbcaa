pub mod Watching
pub mod StateChanges
pub mod Looks
