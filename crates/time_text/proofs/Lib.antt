pub mod NumberLemmas
pub mod DateLemmas
pub mod FormLemmas
pub mod DurationLemmas
pub mod WrittenLemmas
pub mod StateLemmas
