pub mod RuleLemmas
pub mod OccurrenceIdLemmas
pub mod SeriesLemmas
