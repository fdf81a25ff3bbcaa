mod DateLemmas
mod IdLemmas
pub mod OverrideLemmas
