pub mod ListLemmas
pub mod RuleLemmas
pub mod WrittenRules
mod MeantRules
mod ReadingLemmas
