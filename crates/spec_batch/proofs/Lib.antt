pub mod Chains
pub mod CallCounts
