pub mod Granted
pub mod ReadLists
pub mod Restricting
pub mod SessionMembers
pub mod ZonesRead
