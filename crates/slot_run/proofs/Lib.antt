-- The lemmas, by subject.
pub mod AnswerLemmas
pub mod RunLemmas
pub mod Faultless
