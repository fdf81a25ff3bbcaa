pub mod Founds
pub mod OwnTitles
pub mod Sights
