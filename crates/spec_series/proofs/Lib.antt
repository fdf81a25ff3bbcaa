-- The lemmas, by subject.
pub mod Numbers
pub mod Occurrences
pub mod Searches
pub mod LeastItems
pub mod Given
pub mod FirstEdition
