mod BehindLemmas
mod FormLemmas
mod PartedLemmas
mod ResponseLemmas
pub mod SizeLemmas
pub mod ReferredLemmas
