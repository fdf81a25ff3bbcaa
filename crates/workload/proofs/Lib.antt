pub mod Outputs
pub mod Pages
pub mod Steps
