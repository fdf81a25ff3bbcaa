pub mod Lock
pub mod LockSteps
pub mod Counter
pub mod HistoryRule
pub mod Passes
pub mod Rule
pub mod StepNews
pub mod TicketRule
