pub mod Taking
pub mod Accepting
pub mod MemoryForms
pub mod Linking
