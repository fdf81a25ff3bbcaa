-- The lemmas, by subject.
pub mod Quarters
pub mod Wishes
pub mod Slots
pub mod Least
