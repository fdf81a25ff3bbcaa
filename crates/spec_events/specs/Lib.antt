pub mod Values
pub mod Participants
pub mod Events
