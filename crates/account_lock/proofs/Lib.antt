pub mod CounterLemmas
pub mod EntryLemmas
pub mod HistoryLemmas
pub mod LawLemmas
pub mod ServeLemmas
pub mod StepLemmas
pub mod TicketLemmas
pub mod ViewLemmas
