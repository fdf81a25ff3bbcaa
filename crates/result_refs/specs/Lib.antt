pub mod Behind
pub mod Parted
pub mod Steps
pub mod Targets
pub mod Sizes
pub mod Walk
pub mod Reports
