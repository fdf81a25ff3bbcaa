-- The lemmas, by subject.
pub mod Tries
pub mod QuarterLemmas
pub mod Looks
