pub mod Id
pub mod Capabilities
pub mod Names
