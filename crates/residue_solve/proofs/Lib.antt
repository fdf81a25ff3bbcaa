-- The lemmas, by subject.
pub mod IntRing
pub mod CongruenceLemmas
pub mod EuclidLemmas
pub mod SolutionLemmas
pub mod JointLemmas
pub mod LeastLemmas
pub mod Bits
