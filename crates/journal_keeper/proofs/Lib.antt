pub mod DepthLemmas
pub mod Finding
pub mod ManyTexts
pub mod OneEntry
pub mod Loading
pub mod AccountTexts
pub mod WholeLemmas
