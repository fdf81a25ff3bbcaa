mod LocalTextLemmas
mod EventLemmas
pub mod ExceptionLemmas
pub mod OccurrenceLemmas
pub mod SeriesLemmas
mod ValidLemmas
