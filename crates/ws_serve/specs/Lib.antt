pub mod Valued
pub mod Answering
pub mod Turning
pub mod Ending
pub mod Complete
pub mod Histories
pub mod Hosting
pub mod Chained
