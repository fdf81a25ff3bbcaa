pub mod Tables
pub mod Placed
pub mod Numbered
pub mod Listed
pub mod Folded
pub mod Doubles
