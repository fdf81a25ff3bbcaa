pub mod Answers
pub mod Texts
pub mod Errors
pub mod Runs
pub mod Completes
