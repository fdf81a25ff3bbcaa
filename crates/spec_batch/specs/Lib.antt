pub mod Requests
pub mod Asked
pub mod Problem
pub mod References
pub mod Meaning
pub mod Chain
pub mod Batch
pub mod Reply
