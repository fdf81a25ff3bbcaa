-- Lemmas on cycles, years, months and dates, and on the dates of `jiff`.
pub mod CycleLemmas
pub mod YearLemmas
pub mod MonthLemmas
pub mod DateLemmas
pub mod JiffLemmas
pub mod Orders
pub mod WallLemmas
