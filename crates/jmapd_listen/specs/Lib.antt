pub mod Hosts
pub mod Faultless
pub mod Listens
pub mod Program
pub mod Asked
pub mod Offices
pub mod ListensKept
