pub mod NumberedLemmas
pub mod PutAgainLemmas
pub mod CalendarLemmas
pub mod RoomLemmas
pub mod ClearLemmas
pub mod FitLemmas
pub mod LoadLemmas
pub mod JudgeLemmas
