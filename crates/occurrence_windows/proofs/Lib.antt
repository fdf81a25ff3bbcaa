pub mod Walking
pub mod Overlapping
pub mod Listing
pub mod SortedKeys
pub mod Series
pub mod Passing
