pub mod RulesOf
pub mod Overrides
pub mod Recurrence
pub mod OccurrenceIds
pub mod SeriesOf
