pub mod Answering
pub mod Ending
pub mod Complete
pub mod Histories
