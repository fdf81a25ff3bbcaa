pub mod Bounds
pub mod Listing
