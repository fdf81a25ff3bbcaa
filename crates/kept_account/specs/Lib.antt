pub mod Values
pub mod HasKept
pub mod Opened
