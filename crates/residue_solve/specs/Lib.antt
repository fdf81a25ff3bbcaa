-- The definitions that the contracts cite.
pub mod Congruence
pub mod Cong
pub mod Euclid
pub mod Least
pub mod ResidueClass
pub mod ResidueMap
