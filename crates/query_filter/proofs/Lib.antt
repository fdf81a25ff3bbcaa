pub mod AsciiLemmas
pub mod LengthLemmas
pub mod ConditionLemmas
pub mod ClockLemmas
pub mod KeptLemmas
pub mod SkipLemmas
pub mod TextLemmas
pub mod TimeLemmas
