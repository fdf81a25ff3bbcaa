pub mod PlanLemmas
pub mod AskedLemmas
