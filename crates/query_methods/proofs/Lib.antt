pub mod TouchedLemmas
pub mod ComparedLemmas
pub mod ResultLemmas
pub mod RefusalLemmas
pub mod SightLemmas
