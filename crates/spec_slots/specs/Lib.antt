pub mod Quarters
pub mod Wishes
pub mod Slots
pub mod Requests
pub mod AccountSlots
pub mod Texts
