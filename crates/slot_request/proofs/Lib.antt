-- The lemmas.
pub mod AskedLemmas
