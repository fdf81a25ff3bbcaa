pub mod Listening
pub mod Ending
pub mod MemoryForms
