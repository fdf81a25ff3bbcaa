pub mod Paths
pub mod ChangeLemmas
pub mod CursorLemmas
pub mod PatchLemmas
pub mod PointerLemmas
