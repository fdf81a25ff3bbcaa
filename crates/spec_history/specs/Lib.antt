pub mod Base
pub mod Signed
pub mod MostTurns
pub mod History
pub mod ObjectId
pub mod Pages
pub mod States
pub mod PagesLead
