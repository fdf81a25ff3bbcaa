pub mod IdLemmas
